use Rattle.std.proofs.Common.{◌≡◌, ℕ, ◌<◌, slice_get, Some}
use Rattle.vs_plane.specs.Lanes.{pair_lane}
use Rattle.vs_plane.proofs.pairs.Pair.of_lanes.Given as goal

abbrev pub invariant-loop-i : goal.invariant-loop-i
invariant-loop-i g l = (j : ℕ) → j < l.i → slice_get l.lanes j ≡ Some (pair_lane g.W.Word.lane l.pair j)
