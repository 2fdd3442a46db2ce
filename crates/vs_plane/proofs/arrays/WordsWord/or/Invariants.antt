use Rattle.std.proofs.Common.{◌≡◌, ℕ, ◌<◌, length, get_or, bit_or}
use Rattle.vs_plane.proofs.arrays.WordsWord.or.Given as goal

abbrev pub invariant-loop-k : goal.invariant-loop-k
invariant-loop-k g l = record {
  long : length l.words ≡ g.row.K;
  done : (j : ℕ) → j < l.k → get_or l.words j 0 ≡ bit_or (get_or l.fn.self.words j 0) (get_or l.fn.other.words j 0);
}
