use Rattle.std.proofs.Common.{◌∙◌, ap₂, ◌+◌, sym, arith}
use Rattle.vs_full.proofs.Counted.{power_most, power_next}
use Rattle.vs_full.proofs.search.power.Goals as goal

pub loop-k-preserved : goal.loop-k-preserved
loop-k-preserved c =
    let value = c.loop-k.invariant.value in
    let k = c.loop-k._k in
    record {
      value = ap₂ ◌+◌ value value ∙ sym (power_next k);
      most = omega (arith, ap₂ ◌+◌ value value ∙ sym (power_next k), power_most (k + 1) 64 (omega (arith, c.loop-k-test.true, c.requires)));
    }
