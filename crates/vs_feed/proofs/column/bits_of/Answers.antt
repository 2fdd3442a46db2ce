use Rattle.std.proofs.Common.{arith}
use Rattle.std.proofs.lemmas.Nat.Bits.{bit_at-zero}
use Rattle.vs_feed.proofs.Packs.{bits_more}
use Rattle.vs_feed.proofs.column.bits_of.Goals as goal

pub loop-i-init : goal.loop-i-init
loop-i-init c = record {
  each = λ i wide h. absurd (let never : ⊥ = omega arith in never);
  value_high = λ i past. bit_at-zero i;
  unknown_high = λ i past. bit_at-zero i;
}

pub loop-i-preserved : goal.loop-i-preserved
loop-i-preserved c =
    bits_more c.args.stimuli.now c.args.input c.args.k c.loop-i.i c.loop-i.value c.loop-i.unknown c.planes_of-planes.result.0 c.planes_of-planes.result.1 c.with_lowest-value.result c.with_lowest-unknown.result
    c.planes_of-planes.ensures c.with_lowest-value.ensures.changed c.with_lowest-value.ensures.others c.with_lowest-unknown.ensures.changed c.with_lowest-unknown.ensures.others c.loop-i.invariant
