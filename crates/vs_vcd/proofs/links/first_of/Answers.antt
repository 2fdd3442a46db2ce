use Rattle.std.proofs.Common.{◌∙◌, arith}
use Rattle.vs_vcd.proofs.Linking.{step}
use Rattle.vs_vcd.proofs.links.first_of.Goals as goal

pub loop-links-preserved : goal.loop-links-preserved
loop-links-preserved c =
    let inv = c.loop-links.invariant in
    let s = step c.loop-links.links c.loop-links.n inv.back inv.there in
    record {
      there = omega (arith, s.low, s.count, inv.there);
      count = s.count ∙ inv.count;
      back = s.back;
      kept = λ code a. s.kept code (inv.kept code a);
      code = λ code a. s.code code (inv.kept code a) ∙ inv.code code a;
    }
