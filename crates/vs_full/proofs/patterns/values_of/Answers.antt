use Rattle.std.proofs.Common.{◌≡◌, ◌+◌, ◌-◌, ◌<◌, ℕ, true, false, length, refl, sym, ap, ◌∙◌, subst, arith}
use Rattle.vs_design.specs.Covers.{is_free}
use Rattle.vs_full.proofs.Counted.{IsCounted, counted_more}
use Rattle.vs_full.proofs.patterns.values_of.Goals as goal

pub loop-n-preserved-then-is_free : goal.loop-n-preserved-then-is_free
loop-n-preserved-then-is_free c =
    let p = c.args.pattern.now in
    let n = c.loop-n.n in
    let count = c.loop-n.count in
    let inside : n - 1 < length p = omega (arith, c.loop-n.invariant.inside, c.loop-n-test.true) in
    let next : n ≡ n - 1 + 1 = omega (arith, c.loop-n-test.true) in
    counted_more p (n - 1) count (count + count) c.index-pattern-n.result true inside (ap is_free (sym c.index-pattern-n.is) ∙ sym c.is_free.ensures ∙ c.if-is_free.true) refl
    (subst (λ (m : ℕ). IsCounted p m count) next c.loop-n.invariant)

pub loop-n-preserved : goal.loop-n-preserved
loop-n-preserved c =
    let p = c.args.pattern.now in
    let n = c.loop-n.n in
    let count = c.loop-n.count in
    let inside : n - 1 < length p = omega (arith, c.loop-n.invariant.inside, c.loop-n-test.true) in
    let next : n ≡ n - 1 + 1 = omega (arith, c.loop-n-test.true) in
    counted_more p (n - 1) count count c.index-pattern-n.result false inside (ap is_free (sym c.index-pattern-n.is) ∙ sym c.is_free.ensures ∙ c.if-is_free.false) refl (subst (λ (m : ℕ). IsCounted p m count) next c.loop-n.invariant)
