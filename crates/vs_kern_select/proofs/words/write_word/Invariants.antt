use Rattle.std.proofs.Common.{◌≡◌, ◌+◌, ◌*◌, length}
use Rattle.vs_plane.specs.Kernels.{lane_bits, Fills}
use Rattle.vs_kern_select.specs.Words.{write_word}
use Rattle.vs_kern_select.proofs.words.write_word.Given as goal

abbrev pub invariant-loop-n : goal.invariant-loop-n
invariant-loop-n g l = record {
  fills : Fills g.W.Word.lane g.W.Word.LANES (λ i. write_word l.fn.range l.fn.signed (lane_bits g.W.Word.lane l.fn.file l.fn.a i) (lane_bits g.W.Word.lane l.fn.file l.fn.address i) (lane_bits g.W.Word.lane l.fn.file l.fn.value i)) l.fn.to (l.n * length l.fn.value) l.fn.file l.file;
  ticked : l.steps ≡ l.fn.steps + l.n * length l.fn.value;
}

abbrev pub invariant-loop-bit : goal.invariant-loop-bit
invariant-loop-bit g l = record {
  fills : Fills g.W.Word.lane g.W.Word.LANES (λ i. write_word l.fn.range l.fn.signed (lane_bits g.W.Word.lane l.fn.file l.fn.a i) (lane_bits g.W.Word.lane l.fn.file l.fn.address i) (lane_bits g.W.Word.lane l.fn.file l.fn.value i)) l.fn.to (l.from + l.bit) l.fn.file l.file;
  ticked : l.steps ≡ l.fn.steps + (l.from + l.bit);
}
