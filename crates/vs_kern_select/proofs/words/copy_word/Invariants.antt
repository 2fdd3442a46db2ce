use Rattle.std.proofs.Common.{◌≡◌, ◌+◌, length, take, drop, if◌then◌else◌}
use Rattle.vs_plane.specs.Kernels.{lane_bits, Fills}
use Rattle.vs_kern_select.proofs.words.copy_word.Given as goal

abbrev pub invariant-loop-bit : goal.invariant-loop-bit
invariant-loop-bit g l = record {
  fills : Fills g.W.Word.lane g.W.Word.LANES (λ i. if g.W.Word.lane l.lanes i then take (length l.to) (drop l.from (lane_bits g.W.Word.lane l.initial.file l.a i)) else lane_bits g.W.Word.lane l.initial.file l.to i) l.to l.bit l.initial.file l.file;
  ticked : l.steps ≡ l.initial.steps + l.bit;
}
