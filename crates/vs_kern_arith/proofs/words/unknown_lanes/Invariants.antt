use Rattle.std.proofs.Common.{◌≡◌, ℕ, ◌<◌, not, ◌||◌, drop}
use Rattle.vs_four.specs.Logic.{all_known}
use Rattle.vs_plane.specs.Kernels.{lane_bits}
use Rattle.vs_kern_arith.proofs.words.unknown_lanes.Given as goal

-- the lanes so far and those of what is left are those of the whole
abbrev pub invariant-loop-slot : goal.invariant-loop-slot
invariant-loop-slot g l = (i : ℕ) → i < g.W.Word.LANES
    → (g.W.Word.lane l.unknown i || not (all_known (lane_bits g.W.Word.lane l.file (drop l.slot-index l.a) i)))
    ≡ (g.W.Word.lane l.fn.first i || not (all_known (lane_bits g.W.Word.lane l.file l.a i)))
