use Rattle.std.proofs.Common.{◌≡◌, ◌≤◌, ◌-◌}
use Rattle.vs_four.specs.Lengths.{repeat}
use Rattle.vs_base.proofs.values.copies.Given as goal

abbrev pub decreases-loop-made : goal.decreases-loop-made
decreases-loop-made l = l.count - l.made

abbrev pub invariant-loop-made : goal.invariant-loop-made
invariant-loop-made l = (1 ≤ l.made) × (l.made ≤ l.count) × (l.whole ≡ repeat l.made l.a)
