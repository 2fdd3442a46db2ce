use Rattle.std.proofs.Common.{◌≡◌, ℕ, false, length, take}
use Rattle.std.specs.Prelude.{slice_index_or}
use Rattle.vs_clock.specs.Resets.{has_input}
use Rattle.vs_clock.proofs.marks.marks_of.Given as goal

abbrev pub invariant-loop-reset : goal.invariant-loop-reset
invariant-loop-reset l = (length l.marks.items ≡ l.bits) × ((b : ℕ) → slice_index_or l.marks.items b false ≡ has_input (take l.reset-index l.resets) b)
