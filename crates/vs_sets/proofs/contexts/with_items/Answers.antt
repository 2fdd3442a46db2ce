use Rattle.std.proofs.Common.{◌+◌, ap, sym, ◌∙◌, map, drop, arith}
use Rattle.std.specs.Prelude.{◌&&◌, max}
use Rattle.vs_design.specs.Statements.{widest, all_signed}
use Rattle.vs_design.specs.Expressions.{items_of}
use Rattle.vs_sets.specs.Nodes.{tree_of}
use Rattle.vs_sets.proofs.CaseSteps.{each_fit_item, item_step}
use Rattle.vs_sets.proofs.contexts.with_items.Goals as goal

pub own_context-requires-clause-fit : goal.own_context-requires-clause-fit
own_context-requires-clause-fit c = each_fit_item (tree_of c.args.shapes.now) c.args.items.now c.loop-item.item-index c.requires.fit c.loop-item-test.true

pub loop-item-preserved : goal.loop-item-preserved
loop-item-preserved c =
    let tree = tree_of c.args.shapes.now in
    let k = c.loop-item.item-index in
    let ns = c.args.items.now in
    let step = item_step tree ns k c.loop-item-test.true in
    let len = c.shared-all.ensures.width ∙ ap (max c.loop-item.all.width) c.own_context.ensures.width in
    let signed = c.shared-all.ensures.signed ∙ ap (λ b. c.loop-item.all.signed && b) c.own_context.ensures.signed in
    record {
      len = ap (λ w. widest w (items_of (map tree (drop (k + 1) ns)))) len ∙ sym (ap (λ es. widest c.loop-item.all.width (items_of es)) step) ∙ c.loop-item.invariant.len;
      sign = ap (λ b. all_signed b (items_of (map tree (drop (k + 1) ns)))) signed ∙ sym (ap (λ es. all_signed c.loop-item.all.signed (items_of es)) step) ∙ c.loop-item.invariant.sign;
      few = omega (arith, c.shared-all.ensures.width, c.own_context.ensures.few.1, c.loop-item.invariant.few);
    }
