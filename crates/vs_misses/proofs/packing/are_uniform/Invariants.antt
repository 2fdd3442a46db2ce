use Rattle.std.proofs.Common.{ℕ, ◌<◌, slice_index}
use Rattle.vs_misses.specs.Rows.{IsUniform}
use Rattle.vs_misses.proofs.packing.are_uniform.Given as goal

abbrev pub invariant-loop-i : goal.invariant-loop-i
invariant-loop-i l = (n : ℕ) → n < l.i → IsUniform (slice_index l.words n)
