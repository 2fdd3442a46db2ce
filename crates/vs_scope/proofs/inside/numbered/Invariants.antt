use Rattle.vs_scope.specs.Inside.{place_of_local}
use Rattle.vs_scope.proofs.NumberedKeys.{AreNumberedTo}
use Rattle.vs_scope.proofs.inside.numbered.Given as goal

abbrev pub invariant-loop-i : goal.invariant-loop-i
invariant-loop-i l = AreNumberedTo place_of_local l.places l.signals l.i
