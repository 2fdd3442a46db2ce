use Rattle.std.proofs.Common.{◌≡◌, ◌+◌}
use Rattle.vs_plane.specs.Kernels.{lane_bits, Fills}
use Rattle.vs_kern_select.specs.Operators.{write_of}
use Rattle.vs_kern_select.proofs.selects.write.Given as goal

abbrev pub invariant-loop-place : goal.invariant-loop-place
invariant-loop-place g l = record {
  fills : Fills g.W.Word.lane g.W.Word.LANES (λ i. write_of l.selection (lane_bits g.W.Word.lane l.initial.file l.a i) (lane_bits g.W.Word.lane l.initial.file l.base i) (lane_bits g.W.Word.lane l.initial.file l.value i)) l.to l.place l.initial.file l.file;
  ticked : l.steps ≡ l.initial.steps + l.place;
}
