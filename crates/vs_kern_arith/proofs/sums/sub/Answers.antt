use Rattle.std.proofs.Common.{◌≡◌, ℕ, true, length, ap, ◌∙◌, arith}
use Rattle.vs_four.specs.Logic.{BitList}
use Rattle.vs_plane.specs.Kernels.{lane_bits}
use Rattle.vs_kern_arith.specs.Digits.{summed}
use Rattle.vs_kern_arith.proofs.SumLaws.{sub_is}
use Rattle.vs_kern_arith.proofs.sums.sub.Goals as goal

pub returns-clause-computes : goal.returns-clause-computes
returns-clause-computes g c = record {
  value = λ i h.
      let before = c.args.file.now in
      let a : BitList = lane_bits g.W.Word.lane before c.args.a.now i in
      let b : BitList = lane_bits g.W.Word.lane before c.args.b.now i in
      let long : length c.args.to.now ≡ length a = omega (arith, c.filling_law.ensures.long before c.args.a.now i, c.requires.a_length) in
      let same : length b ≡ length a = omega (arith, long, c.filling_law.ensures.long before c.args.b.now i, c.requires.b_length) in
      c.sum_bits.ensures.computes.value i h ∙ ap (λ (n : ℕ). summed true n a b) long ∙ sub_is a b same;
  others = c.sum_bits.ensures.computes.others;
}
