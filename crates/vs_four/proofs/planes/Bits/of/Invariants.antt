use Rattle.std.proofs.Common.{◌≡◌, ◌≤◌, length, drop}
use Rattle.vs_four.specs.Planes.{value_plane, unknown_plane}
use Rattle.vs_four.proofs.planes.Bits.of.Given as goal

abbrev pub invariant-loop-place : goal.invariant-loop-place
invariant-loop-place l = (l.place ≤ length l.list) × (l.value ≡ value_plane (drop l.place l.list)) × (l.unknown ≡ unknown_plane (drop l.place l.list))

abbrev pub decreases-loop-place : goal.decreases-loop-place
decreases-loop-place l = l.place
