use Rattle.std.proofs.Common.{◌≡◌, ℕ, ◌<◌, ◌&&◌, drop}
use Rattle.vs_plane.specs.Kernels.{lane_bits}
use Rattle.vs_kern_select.specs.Matches.{is_natural}
use Rattle.vs_kern_select.proofs.selects.lanes_of_natural.Given as goal

-- the lanes so far in which what is left of the base is what is left of the number are those of the whole
abbrev pub invariant-loop-slot : goal.invariant-loop-slot
invariant-loop-slot g l = (i : ℕ) → i < g.W.Word.LANES
    → (g.W.Word.lane l.lanes i && is_natural l.inverted (lane_bits g.W.Word.lane l.file (drop l.slot-index l.base) i) l.left)
    ≡ is_natural l.inverted (lane_bits g.W.Word.lane l.file l.base i) l.fn.number
