use Rattle.std.proofs.Common.{◌≡◌, ℕ, ◌<◌, length, get_or, drop}
use Rattle.vs_four.specs.declared.Bit4.TheVariants.{X}
use Rattle.vs_four.specs.Selects.{places}
use Rattle.vs_plane.specs.Lanes.{pair_lane}
use Rattle.vs_plane.specs.Kernels.{lane_bits}
use Rattle.vs_kern_select.specs.Operators.{part_of, write_of}
use Rattle.vs_kern_select.proofs.SelectPlaces.{written_at}
use Rattle.vs_kern_select.proofs.selects.written_bit.Given as goal

-- the bits that are left make of the bit so far what the whole write makes of the old one
abbrev pub invariant-loop-bit : goal.invariant-loop-bit
invariant-loop-bit g l = (i : ℕ) → i < g.W.Word.LANES
    → written_at l.place (pair_lane g.W.Word.lane l.pair i)
    (drop l.bit (places (part_of l.selection (length l.value)) l.selection.signed (lane_bits g.W.Word.lane l.file l.base i)))
    (drop l.bit (lane_bits g.W.Word.lane l.file l.value i))
    ≡ get_or (write_of l.selection (lane_bits g.W.Word.lane l.file l.a i) (lane_bits g.W.Word.lane l.file l.base i) (lane_bits g.W.Word.lane l.file l.value i)) l.place X
