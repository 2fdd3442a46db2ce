use Rattle.std.proofs.Common.{◌≡◌, ◌+◌}
use Rattle.vs_four.specs.Logic.{map2}
use Rattle.vs_plane.specs.Kernels.{lane_bits, Fills}
use Rattle.vs_kern_select.specs.Matches.{chosen_bit}
use Rattle.vs_kern_select.proofs.choices.choose_bits.Given as goal

abbrev pub invariant-loop-k : goal.invariant-loop-k
invariant-loop-k g l = record {
  fills : Fills g.W.Word.lane g.W.Word.LANES (λ i. map2 (chosen_bit (g.W.Word.lane l.first i) (g.W.Word.lane l.second i)) (lane_bits g.W.Word.lane l.initial.file l.p i) (lane_bits g.W.Word.lane l.initial.file l.q i)) l.to l.k l.initial.file l.file;
  ticked : l.steps ≡ l.initial.steps + l.k;
}
