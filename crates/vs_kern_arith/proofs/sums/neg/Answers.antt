use Rattle.std.proofs.Common.{◌≡◌, ℕ, true, length, [], ap, ◌∙◌, arith}
use Rattle.vs_four.specs.Logic.{BitList}
use Rattle.vs_plane.specs.Kernels.{lane_bits}
use Rattle.vs_kern_arith.specs.Digits.{summed}
use Rattle.vs_kern_arith.proofs.SumLaws.{neg_is}
use Rattle.vs_kern_arith.proofs.sums.neg.Goals as goal

pub returns-clause-computes : goal.returns-clause-computes
returns-clause-computes g c = record {
  value = λ i h.
      let a : BitList = lane_bits g.W.Word.lane c.args.file.now c.args.a.now i in
      let long : length c.args.to.now ≡ length a = omega (arith, c.filling_law.ensures.long c.args.file.now c.args.a.now i, c.requires.a_length) in
      c.sum_bits.ensures.computes.value i h ∙ ap (λ (n : ℕ). summed true n [] a) long ∙ neg_is a;
  others = c.sum_bits.ensures.computes.others;
}
