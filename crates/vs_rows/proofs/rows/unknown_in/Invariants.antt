use Rattle.std.proofs.Common.{◌≡◌, ℕ, ◌<◌, get_or, false}
use Rattle.vs_rows.specs.Rows as spec
use Rattle.vs_rows.proofs.rows.unknown_in.Given as goal

abbrev pub invariant-loop-at : goal.invariant-loop-at
invariant-loop-at l = (k : ℕ) → k < l.at → spec.is_unknown (get_or l.line k 0) ≡ false
