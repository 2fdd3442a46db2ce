use Rattle.std.proofs.Common.{◌≡◌, ℕ, ◌^◌, ◌<◌, length, get_or}
use Rattle.std.specs.Int.{bit_not, w64}
use Rattle.vs_plane.proofs.arrays.WordsWord.not.Given as goal

abbrev pub invariant-loop-k : goal.invariant-loop-k
invariant-loop-k g l = record {
  long : length l.words ≡ g.row.K;
  done : (j : ℕ) → j < l.k → get_or l.words j 0 ≡ bit_not w64 (get_or l.fn.self.words j 0);
  fits : (j : ℕ) → j < l.k → get_or l.fn.self.words j 0 < 2 ^ 64;
}
