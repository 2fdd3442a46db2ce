use Rattle.std.proofs.Common.{◌≡◌, ℕ, ◌≤◌, ◌<◌, ◌-◌, get_or, length, false}
use Rattle.vs_rows.specs.Expected as spec
use Rattle.vs_rows.proofs.controls.before_arrow.Given as goal

abbrev pub invariant-loop-end : goal.invariant-loop-end
invariant-loop-end l = record {
  within : l.end ≤ length l.fields;
  none : (k : ℕ) → k < l.end → spec.arrow_at l.line (get_or l.fields k 0) ≡ false;
}

abbrev pub decreases-loop-end : goal.decreases-loop-end
decreases-loop-end l = length l.fields - l.end
