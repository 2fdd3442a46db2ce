use Rattle.std.proofs.Common.{arith}
use Rattle.std.proofs.lemmas.Nat.Bits.{bit_at-zero}
use Rattle.vs_misses.proofs.Packs.{bits_more}
use Rattle.vs_misses.proofs.packing.bits_of.Goals as goal

pub loop-i-init : goal.loop-i-init
loop-i-init c = record {
  each = λ i have h. absurd (let never : ⊥ = omega arith in never);
  value_high = λ i past. bit_at-zero i;
  unknown_high = λ i past. bit_at-zero i;
  any_high = λ i past. bit_at-zero i;
}

pub loop-i-preserved : goal.loop-i-preserved
loop-i-preserved c =
    bits_more c.args.drive.now c.args.places.now c.args.k c.loop-i.i c.loop-i.value c.loop-i.unknown c.loop-i.any
    c.planes_in-planes.result.0 c.planes_in-planes.result.1 c.planes_in-planes.result.2 c.with_lowest-value.result c.with_lowest-unknown.result c.with_lowest-any.result c.planes_in-planes.ensures
    c.with_lowest-value.ensures.changed c.with_lowest-value.ensures.others c.with_lowest-unknown.ensures.changed c.with_lowest-unknown.ensures.others
    c.with_lowest-any.ensures.changed c.with_lowest-any.ensures.others c.loop-i.invariant
