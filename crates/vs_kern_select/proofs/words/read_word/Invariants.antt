use Rattle.std.proofs.Common.{◌≡◌, ◌≢◌, ℕ, ◌+◌, ◌*◌, ◌<◌, length, get_or, slice_get}
use Rattle.vs_plane.specs.Kernels.{lane_bits}
use Rattle.vs_kern_select.specs.Words.{address_place}
use Rattle.vs_kern_select.proofs.WordLaws.{so_far}
use Rattle.vs_kern_select.proofs.words.read_word.Given as goal

-- the word, if it is one of those so far
abbrev pub invariant-loop-n : goal.invariant-loop-n
invariant-loop-n g l = record {
  slots : length l.file ≡ length l.fn.file;
  value : (i : ℕ) → i < g.W.Word.LANES → lane_bits g.W.Word.lane l.file l.to i
      ≡ so_far (length l.to) l.n (lane_bits g.W.Word.lane l.fn.file l.a i) (address_place l.range l.signed (lane_bits g.W.Word.lane l.fn.file l.address i));
  kept : (slot : ℕ) → ((k : ℕ) → k < length l.to → get_or l.to k 0 ≢ slot) → slice_get l.file slot ≡ slice_get l.fn.file slot;
  ticked : l.steps ≡ l.fn.steps + (length l.to + l.n * length l.to);
}
