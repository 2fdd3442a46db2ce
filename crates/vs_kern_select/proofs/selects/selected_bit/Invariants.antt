use Rattle.std.proofs.Common.{◌≡◌, ℕ, ◌<◌, None, get_or, take}
use Rattle.vs_four.specs.declared.Bit4.TheVariants.{X}
use Rattle.vs_four.specs.Selects.{at_place, places}
use Rattle.vs_plane.specs.Lanes.{pair_lane}
use Rattle.vs_plane.specs.Kernels.{lane_bits}
use Rattle.vs_kern_select.specs.Operators.{part_of}
use Rattle.vs_kern_select.proofs.selects.selected_bit.Given as goal

-- the bit at its place among the places so far
abbrev pub invariant-loop-place : goal.invariant-loop-place
invariant-loop-place g l = (i : ℕ) → i < g.W.Word.LANES
    → pair_lane g.W.Word.lane l.pair i
    ≡ at_place X (take l.place (lane_bits g.W.Word.lane l.file l.a i)) (get_or (places (part_of l.selection l.width) l.selection.signed (lane_bits g.W.Word.lane l.file l.base i)) l.bit None)
