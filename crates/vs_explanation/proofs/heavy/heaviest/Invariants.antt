use Rattle.std.proofs.Common.{◌≡◌, ◌≤◌, drop, length}
use Rattle.vs_explanation.specs.Heavy as spec
use Rattle.vs_explanation.proofs.heavy.heaviest.Given as goal

abbrev pub invariant-loop-left : goal.invariant-loop-left
invariant-loop-left l = record { inside : l.left ≤ length l.weights; looked_at : l.kept.items ≡ spec.heaviest (drop l.left (spec.paired l.bytes l.weights)) }

abbrev pub decreases-loop-left : goal.decreases-loop-left
decreases-loop-left l = l.left
