use Rattle.std.proofs.Common.{◌<◌, ◌+◌, length, arith, ap, ◌∙◌}
use Rattle.std.specs.Prelude.{◌&&◌, ◌==◌}
use Rattle.std.proofs.Math.ListN.{length-set}
use Rattle.vs_sets.specs.Extremes.{extreme_bit, counts_up}
use Rattle.vs_sets.proofs.ExtremeSteps.{extreme_more}
use Rattle.vs_sets.proofs.values.extreme_bits.Goals as goal

pub loop-n-preserved : goal.loop-n-preserved
loop-n-preserved c =
    let sets = c.args.sets.now in
    let n = c.loop-n.n in
    let x = c.index-sets-n.result in
    let room : n < length c.loop-n.bits = omega arith in
    record {
      size = simp length-set (c.loop-n.invariant.size);
      made =
          extreme_more c.args.greatest c.args.signed sets c.loop-n.bits n x c.extreme_bit.result c.loop-n-test.true room
          (c.extreme_bit.ensures ∙ ap (λ b. extreme_bit b x) c.counts_up-greater.ensures
          ∙ ap (λ y. extreme_bit (counts_up c.args.greatest (c.args.signed && ((n + 1) == length sets))) y) c.index-sets-n.is)
          c.loop-n.invariant.made;
    }
