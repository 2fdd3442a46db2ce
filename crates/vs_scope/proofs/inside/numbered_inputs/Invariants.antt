use Rattle.vs_scope.specs.Inside.{signal_of}
use Rattle.vs_scope.proofs.NumberedKeys.{AreNumberedTo}
use Rattle.vs_scope.proofs.inside.numbered_inputs.Given as goal

abbrev pub invariant-loop-i : goal.invariant-loop-i
invariant-loop-i l = AreNumberedTo signal_of l.numbers l.passed l.i
