use Rattle.std.proofs.Common.{◌≡◌, ◌+◌}
use Rattle.vs_plane.specs.Lanes.{pair_lane}
use Rattle.vs_plane.specs.Kernels.{lane_bits, Fills}
use Rattle.vs_kern_select.specs.Moves.{first}
use Rattle.vs_kern_select.proofs.shifts.first_bits.Given as goal

abbrev pub invariant-loop-k : goal.invariant-loop-k
invariant-loop-k g l = record {
  fills : Fills g.W.Word.lane g.W.Word.LANES (λ i. first (g.W.Word.lane l.unknown i) (g.W.Word.lane l.out i) (pair_lane g.W.Word.lane l.fill i) (lane_bits g.W.Word.lane l.initial.file l.a i)) l.to l.k l.initial.file l.file;
  ticked : l.steps ≡ l.initial.steps + l.k;
}
