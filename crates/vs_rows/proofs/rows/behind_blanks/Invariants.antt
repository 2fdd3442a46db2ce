use Rattle.std.proofs.Common.{◌≡◌, ℕ, ◌≤◌, ◌<◌, ◌-◌, get_or, length, true}
use Rattle.vs_rows.specs.Rows as spec
use Rattle.vs_rows.proofs.rows.behind_blanks.Given as goal

abbrev pub invariant-loop-start : goal.invariant-loop-start
invariant-loop-start l = record {
  within : l.start ≤ length l.text;
  blank : (k : ℕ) → k < l.start → spec.is_blank (get_or l.text k 0) ≡ true;
}

abbrev pub decreases-loop-start : goal.decreases-loop-start
decreases-loop-start l = length l.text - l.start
