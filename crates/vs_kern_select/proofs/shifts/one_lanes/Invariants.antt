use Rattle.std.proofs.Common.{◌≡◌, ℕ, ◌<◌, ◌||◌, drop}
use Rattle.std.specs.List.{list_any}
use Rattle.vs_four.specs.Tables.{is_one}
use Rattle.vs_plane.specs.Kernels.{lane_bits}
use Rattle.vs_kern_select.proofs.shifts.one_lanes.Given as goal

-- the lanes so far and those of what is left are those of the whole
abbrev pub invariant-loop-slot : goal.invariant-loop-slot
invariant-loop-slot g l = (i : ℕ) → i < g.W.Word.LANES
    → (g.W.Word.lane l.ones i || list_any is_one (lane_bits g.W.Word.lane l.file (drop l.slot-index l.a) i))
    ≡ list_any is_one (lane_bits g.W.Word.lane l.file l.a i)
