use Rattle.std.proofs.Common.{List, Option, ℕ, sym, ◌∙◌, subst, arith}
use Rattle.vs_flat.specs.DesignOf.{design_of}
use Rattle.vs_full.specs.Roots.{AreCopies}
use Rattle.vs_full.proofs.Copying.{all_roots, roots_more}
use Rattle.vs_full.proofs.roots.roots_of.Goals as goal

pub root_within-root-requires-clause-copies : goal.root_within-root-requires-clause-copies
root_within-root-requires-clause-copies c = subst (λ (cs : List (Option ℕ)). AreCopies (design_of c.args.flat.now) cs) (sym c.as_slice.ensures.value) c.in_ok-copies.ensures

pub loop-s-preserved : goal.loop-s-preserved
loop-s-preserved c =
    let a = c.args.flat.now in
    let counts = c.trees_law.ensures.counts a in
    c.in_ok-push.ensures.items
    ∙ roots_more (design_of a) c.loop-s.s c.process_count.result c.loop-s.roots.items c.root_within-root.result (omega (arith, c.loop-s-test.true, c.signal_count-s-end.ensures.count, counts.signals)) (c.process_count.ensures.count ∙ sym counts.processes) c.root_within-root.ensures c.loop-s.invariant

pub returns : goal.returns
returns c =
    let k = (c.trees_law.ensures.counts c.args.flat.now).signals in
    all_roots (design_of c.args.flat.now) c.loop-s.s c.loop-s.roots.items (omega (arith, c.loop-s-test.false, c.loop-s.auto.s-end, c.signal_count-s-end.ensures.count, k)) c.loop-s.invariant
