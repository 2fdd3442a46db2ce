use Rattle.std.proofs.Common.{◌≡◌, ℕ, ◌≤◌, ◌<◌, ◌-◌, get_or, length, false}
use Rattle.vs_excerpt.specs.Positions as spec
use Rattle.vs_rows.proofs.rows.first_line.Given as goal

abbrev pub invariant-loop-end : goal.invariant-loop-end
invariant-loop-end l = record {
  within : l.end ≤ length l.text;
  none : (k : ℕ) → k < l.end → spec.is_newline (get_or l.text k 0) ≡ false;
}

abbrev pub decreases-loop-end : goal.decreases-loop-end
decreases-loop-end l = length l.text - l.end
