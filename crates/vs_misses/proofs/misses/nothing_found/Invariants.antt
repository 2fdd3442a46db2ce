use Rattle.std.proofs.Common.{◌≡◌, ℕ, ◌-◌, ◌≤◌, length, None}
use Rattle.vs_misses.specs.Watch.{found_at}
use Rattle.vs_misses.proofs.misses.nothing_found.Given as goal

abbrev pub invariant-lanes : goal.invariant-lanes
invariant-lanes l = record {
  long : length l.found.items ≤ l.lanes;
  none : (i : ℕ) → found_at l.found.items i ≡ None;
}

abbrev pub decreases-lanes : goal.decreases-lanes
decreases-lanes l = l.lanes - length l.found.items
