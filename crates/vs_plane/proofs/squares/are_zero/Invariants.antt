use Rattle.std.proofs.Common.{ℕ, ◌<◌, ◌≤◌, get_or}
use Rattle.vs_plane.proofs.squares.are_zero.Given as goal

-- none of the first rows is above what all of them have
abbrev pub invariant-loop-i : goal.invariant-loop-i
invariant-loop-i l = (r : ℕ) → r < l.i → get_or l.rows r 0 ≤ l.bits
