use Rattle.std.proofs.Common.{◌≡◌, ℕ, ◌+◌, ◌<◌, length, true}
use Rattle.vs_four.specs.Logic.{all_known}
use Rattle.vs_plane.specs.Kernels.{lane_bits, Fills}
use Rattle.vs_kern_arith.specs.Digits.{summed}
use Rattle.vs_kern_arith.proofs.SumLaws.{IsLeft}
use Rattle.vs_kern_arith.proofs.sums.sum_bits.Given as goal

-- where all bits are known, the carry is that of the places so far
abbrev pub invariant-loop-k : goal.invariant-loop-k
invariant-loop-k g l = record {
  fills : Fills g.W.Word.lane g.W.Word.LANES (λ i. summed l.inverted (length l.to) (lane_bits g.W.Word.lane l.initial.file l.a i) (lane_bits g.W.Word.lane l.initial.file l.b i)) l.to l.k l.initial.file l.file;
  ticked : l.steps ≡ l.initial.steps + l.k;
  carried : (i : ℕ) → i < g.W.Word.LANES
      → all_known (lane_bits g.W.Word.lane l.initial.file l.a i) ≡ true → all_known (lane_bits g.W.Word.lane l.initial.file l.b i) ≡ true
      → IsLeft l.inverted (lane_bits g.W.Word.lane l.initial.file l.a i) (lane_bits g.W.Word.lane l.initial.file l.b i) l.k (g.W.Word.lane l.carry i);
}
