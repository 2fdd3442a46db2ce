use Rattle.std.proofs.Common.{◌<◌, ◌+◌, ℕ, get_or, set, subst, sym, ◌∙◌, length-set, arith}
use Rattle.vs_compile.proofs.Lists.{from_all, member_at}
use Rattle.vs_compile.proofs.Shadows.{HaveFirst, one_more}
use Rattle.vs_compile.proofs.tables.shadows_of.Goals as goal

pub loop-place-preserved : goal.loop-place-preserved
loop-place-preserved c =
    let n : ℕ = c.loop-place.place in
    let regs = c.args.registers.now in
    let low : get_or regs n 0 < c.args.count = from_all (λ b. b < c.args.count) regs c.requires.below (get_or regs n 0) (member_at regs n c.loop-place-test.true) in
    record {
      long = length-set c.loop-place.shadows.items (get_or regs n 0) (c.home.result + n) ∙ c.loop-place.invariant.long;
      places = subst (λ (z : ℕ). HaveFirst c.args.count regs (set c.loop-place.shadows.items (get_or regs n 0) (z + n)) (n + 1)) (sym c.home.ensures)
          (one_more c.args.count regs c.loop-place.shadows.items n c.loop-place-test.true c.requires.apart (omega (arith, low, c.loop-place.invariant.long)) c.loop-place.invariant.places);
    }
