use Rattle.std.proofs.Common.{◌≡◌, ◌≤◌, ◌-◌}
use Rattle.vs_four.specs.Lengths.{repeat}
use Rattle.vs_build.proofs.builder.copied.Given as goal

abbrev pub invariant-loop-made : goal.invariant-loop-made
invariant-loop-made l = (l.made ≤ l.copies) × (l.all.items ≡ repeat l.made l.part)

abbrev pub decreases-loop-made : goal.decreases-loop-made
decreases-loop-made l = l.copies - l.made
