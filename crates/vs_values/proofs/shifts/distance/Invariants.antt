use Rattle.std.proofs.Common.{◌≡◌, ◌≤◌, drop, length}
use Rattle.vs_four.specs.Shifts.{distance}
use Rattle.vs_values.specs.Constants.{constant_bits}
use Rattle.vs_values.proofs.shifts.distance.Given as goal

abbrev pub invariant-loop-place : goal.invariant-loop-place
invariant-loop-place l = (l.place ≤ length l.amount) × (l.moved ≡ distance l.length (constant_bits (drop l.place l.amount))) × (l.moved ≤ l.length)

abbrev pub decreases-loop-place : goal.decreases-loop-place
decreases-loop-place l = l.place
