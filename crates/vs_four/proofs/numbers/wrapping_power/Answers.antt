use Rattle.std.proofs.Common.{◌∙◌, ap, ◌*◌, ◌/◌, ◌%◌, ◌^◌, ℕ, arith}
use Rattle.vs_four.proofs.PowerLemmas.{step, no_more, at_first}
use Rattle.vs_four.proofs.numbers.wrapping_power.Goals as goal

pub loop-left-init : goal.loop-left-init
loop-left-init c = record { small = omega arith; product = at_first c.args.base c.args.exponent (2 ^ 64) }

pub loop-left-preserved : goal.loop-left-preserved
loop-left-preserved c = record {
  small = c.times_if_odd-power.type_inv;
  product =
      ap (λ (p : ℕ). p * (c.loop-left.square * c.loop-left.square % 2 ^ 64) ^ (c.loop-left.left / 2) % 2 ^ 64) c.times_if_odd-power.ensures
      ∙ step c.loop-left.power c.loop-left.square c.loop-left.left (2 ^ 64) ∙ c.loop-left.invariant.product;
}

pub returns : goal.returns
returns c = no_more c.loop-left.power c.loop-left.square c.loop-left.left (2 ^ 64) c.loop-left-test.false c.loop-left.invariant.small ∙ c.loop-left.invariant.product
