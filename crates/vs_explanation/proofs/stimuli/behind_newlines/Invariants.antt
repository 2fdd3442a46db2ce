use Rattle.std.proofs.Common.{◌≡◌}
use Rattle.vs_explanation.specs.Rows as spec
use Rattle.vs_explanation.proofs.stimuli.behind_newlines.Given as goal

abbrev pub invariant-loop-left : goal.invariant-loop-left
invariant-loop-left l = spec.behind_newlines l.left l.rest ≡ spec.behind_newlines l.fn.n l.fn.text

abbrev pub decreases-loop-left : goal.decreases-loop-left
decreases-loop-left l = l.left
