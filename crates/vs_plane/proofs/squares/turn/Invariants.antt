use Rattle.std.proofs.Common.{◌≡◌, ℕ, ◌*◌, ◌^◌, ◌<◌, length, get_or}
use Rattle.vs_plane.proofs.SquareTurns.{AreTurned}
use Rattle.vs_plane.proofs.squares.turn.Given as goal

abbrev pub invariant-loop-i : goal.invariant-loop-i
invariant-loop-i l = record {
  long : length l.turned ≡ 64;
  fits : (r : ℕ) → get_or l.turned r 0 < 2 ^ 64;
  done : AreTurned l.shift l.rows (2 * l.i) l.turned;
}
