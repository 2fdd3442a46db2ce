use Rattle.std.proofs.Common.{◌≡◌, ◌+◌, length}
use Rattle.vs_plane.specs.Kernels.{lane_bits, Fills}
use Rattle.vs_kern_select.specs.Operators.{select_of}
use Rattle.vs_kern_select.proofs.selects.select.Given as goal

abbrev pub invariant-loop-bit : goal.invariant-loop-bit
invariant-loop-bit g l = record {
  fills : Fills g.W.Word.lane g.W.Word.LANES (λ i. select_of l.selection (length l.to) (lane_bits g.W.Word.lane l.initial.file l.a i) (lane_bits g.W.Word.lane l.initial.file l.base i)) l.to l.bit l.initial.file l.file;
  ticked : l.steps ≡ l.initial.steps + l.bit;
}
