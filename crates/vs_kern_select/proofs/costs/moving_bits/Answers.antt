use Rattle.std.proofs.Common.{◌≡◌, ◌≤◌, ◌^◌, ℕ, suc, ap, add-one, arith, ◌+◌, ◌<◌}
use Rattle.std.proofs.Math.Nat.{pow-suc}
use Rattle.vs_kern_select.proofs.ShiftDigits.{log_up-next, log_up-ends}
use Rattle.vs_kern_select.proofs.costs.moving_bits.Goals as goal

pub returns-then-width-distance : goal.returns-then-width-distance
returns-then-width-distance c =
    let reached : c.args.width ≤ 2 ^ c.loop-bits.bits = omega arith in
    omega (arith, log_up-ends c.args.width c.loop-bits.bits c.loop-bits.invariant.below reached)

pub loop-bits-preserved : goal.loop-bits-preserved
loop-bits-preserved c =
    let below : 2 ^ c.loop-bits.bits < c.args.width = omega arith in
    let next : 2 ^ (c.loop-bits.bits + 1) ≡ 2 ^ suc c.loop-bits.bits = ap (λ (n : ℕ). 2 ^ n) (add-one c.loop-bits.bits) in
    record {
      power = omega (arith, next, pow-suc 2 c.loop-bits.bits);
      below = log_up-next c.args.width c.loop-bits.bits c.loop-bits.invariant.below below;
    }
