use Rattle.std.proofs.Common.{◌≡◌, ℕ, ◌≤◌, ◌<◌, false}
use Rattle.vs_rows.specs.Rows as spec
use Rattle.vs_rows.proofs.rows.row_from.Given as goal

abbrev pub invariant-loop-at : goal.invariant-loop-at
invariant-loop-at l = (q : ℕ) → l.from ≤ q → q < l.at → spec.row_begins l.text q ≡ false
