use Rattle.std.proofs.Common.{◌≡◌, ◌<◌, ℕ, true, get_or}
use Rattle.vs_design.specs.Footprints.{contains}
use Rattle.vs_block.proofs.missing.first_missing.Given as goal

abbrev pub invariant-loop-bit : goal.invariant-loop-bit
invariant-loop-bit l = (j : ℕ) → j < l.bit-index → contains l.waits (get_or l.reads j 0) ≡ true
