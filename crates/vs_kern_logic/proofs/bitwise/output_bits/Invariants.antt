use Rattle.std.proofs.Common.{◌≡◌, ◌+◌, map}
use Rattle.vs_plane.specs.Kernels.{lane_bits, Fills}
use Rattle.vs_kern_logic.specs.Gates.{output_bit}
use Rattle.vs_kern_logic.proofs.bitwise.output_bits.Given as goal

abbrev pub invariant-loop-k : goal.invariant-loop-k
invariant-loop-k g l = record {
  fills : Fills g.W.Word.lane g.W.Word.LANES (λ i. map (output_bit l.inverted) (lane_bits g.W.Word.lane l.initial.file l.a i)) l.to l.k l.initial.file l.file;
  ticked : l.steps ≡ l.initial.steps + l.k;
}
