use Rattle.std.proofs.Common.{◌≡◌, ℕ, ◌≤◌, ◌<◌, get_or, length, false}
use Rattle.vs_excerpt.specs.Positions as spec
use Rattle.vs_excerpt.proofs.positions.last_line.Given as goal

abbrev pub invariant-loop-start : goal.invariant-loop-start
invariant-loop-start l = record {
  within : l.start ≤ length l.text;
  none : (k : ℕ) → l.start ≤ k → k < length l.text → spec.is_newline (get_or l.text k 0) ≡ false;
}

abbrev pub decreases-loop-start : goal.decreases-loop-start
decreases-loop-start l = l.start
