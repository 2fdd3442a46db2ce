use Rattle.std.proofs.Common.{rules, sym, ◌∙◌, arith}
use Rattle.vs_flat.specs.DesignOf.{design_of}
use Rattle.vs_full.proofs.Copying.{all_copies, no_copies}
use Rattle.vs_full.proofs.roots.copies_of.Goals as goal

pub loop-p-init : goal.loop-p-init
loop-p-init c =
    no_copies (design_of c.args.flat.now) c.signal_count.result c.in_ok-copies.copies.items (c.signal_count.ensures.count ∙ sym (c.trees_law.ensures.counts c.args.flat.now).signals) (c.in_ok-copies.ensures.items_if_clones_equal (λ y e. search rules))

pub returns : goal.returns
returns c =
    let k = (c.trees_law.ensures.counts c.args.flat.now).processes in
    all_copies (design_of c.args.flat.now) c.loop-p.p c.loop-p.copies.items (omega (arith, c.loop-p-test.false, c.loop-p.auto.p-end, c.process_count-p-end.ensures.count, k)) c.loop-p.invariant
