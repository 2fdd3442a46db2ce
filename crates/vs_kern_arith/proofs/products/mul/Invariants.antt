use Rattle.std.proofs.Common.{◌≡◌, ◌≢◌, ℕ, ◌+◌, ◌*◌, ◌<◌, length, get_or, slice_get}
use Rattle.vs_plane.specs.Kernels.{lane_bits}
use Rattle.vs_kern_arith.proofs.ProductLaws.{product}
use Rattle.vs_kern_arith.proofs.products.mul.Given as goal

-- so far the value is the product with the second operand's first n places; row m made w - m stores
abbrev pub invariant-loop-n : goal.invariant-loop-n
invariant-loop-n g l = record {
  slots : length l.file ≡ length l.fn.file;
  value : (i : ℕ) → i < g.W.Word.LANES → lane_bits g.W.Word.lane l.file l.to i
      ≡ product (lane_bits g.W.Word.lane l.fn.file l.a i) (lane_bits g.W.Word.lane l.fn.file l.b i) l.n;
  kept : (slot : ℕ) → ((k : ℕ) → k < length l.to → get_or l.to k 0 ≢ slot) → slice_get l.file slot ≡ slice_get l.fn.file slot;
  ticked : 2 * l.steps + l.n * l.n ≡ 2 * (l.fn.steps + length l.to) + 2 * (l.n * length l.to) + l.n;
}
