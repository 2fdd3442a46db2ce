use Rattle.std.proofs.Common.{◌≡◌, ◌<◌, ◌||◌, not, ℕ, false}
use Rattle.vs_block.specs.Flags.{is_set}
use Rattle.vs_block.proofs.latches.first_kept.Given as goal

abbrev pub invariant-loop-k : goal.invariant-loop-k
invariant-loop-k l = (j : ℕ) → j < l.k → (is_set l.early j || not (is_set l.assigned j)) ≡ false
