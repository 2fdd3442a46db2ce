use Rattle.std.proofs.Common.{◌≡◌, ℕ, ◌<◌, length, get_or, bit_xor}
use Rattle.vs_plane.proofs.arrays.WordsWord.xor.Given as goal

abbrev pub invariant-loop-k : goal.invariant-loop-k
invariant-loop-k g l = record {
  long : length l.words ≡ g.row.K;
  done : (j : ℕ) → j < l.k → get_or l.words j 0 ≡ bit_xor (get_or l.fn.self.words j 0) (get_or l.fn.other.words j 0);
}
