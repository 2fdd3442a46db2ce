use Rattle.std.proofs.Common.{◌≡◌, ◌+◌}
use Rattle.vs_plane.specs.Lanes.{pair_lane}
use Rattle.vs_plane.specs.Kernels.{lane_bits, Fills}
use Rattle.vs_kern_select.specs.Moves.{moved, turns}
use Rattle.vs_kern_select.proofs.shifts.move_bits.Given as goal

-- so far the first turns have stored their bits
abbrev pub invariant-loop-turn : goal.invariant-loop-turn
invariant-loop-turn g l = record {
  fills : Fills g.W.Word.lane g.W.Word.LANES (λ i. moved (g.W.Word.lane l.moves i) (pair_lane g.W.Word.lane l.fill i) l.distance (lane_bits g.W.Word.lane l.initial.file (turns l.left l.to) i)) (turns l.left l.to) l.turn l.initial.file l.file;
  ticked : l.steps ≡ l.initial.steps + l.turn;
}
