use Rattle.std.proofs.Common.{◌+◌, ◌++◌, List, ℕ, get_or, drop, map, sym, ap, ◌∙◌, append-nil, arith}
use Rattle.std.proofs.lemmas.List.{drop_all}
use Rattle.vs_design.specs.Covers.{Pattern, patterns_of}
use Rattle.vs_design.specs.Expressions.{items_of}
use Rattle.vs_design.specs.Selects.{item_patterns}
use Rattle.vs_sets.proofs.CaseSteps.{each_fit_item, each_within}
use Rattle.vs_sets.proofs.Fit.{fits-from_fit}
use Rattle.vs_sets.proofs.Steps.{moved}
use Rattle.vs_shape.specs.Nodes.{tree_of}
use Rattle.vs_full.proofs.Forming.{each_constant, items_step}
use Rattle.vs_full.proofs.full.push_items.Goals as goal

pub value-value-requires-clause-valued : goal.value-value-requires-clause-valued
value-value-requires-clause-valued c =
    let tree = tree_of c.args.shapes.now in
    record {
      constant = each_constant tree c.args.items.now c.loop-item.item-index c.requires.constant c.loop-item-test.true;
      fits = fits-from_fit (tree (get_or c.args.items.now c.loop-item.item-index 0)) (each_fit_item tree c.args.items.now c.loop-item.item-index c.requires.fit c.loop-item-test.true);
    }

pub value-value-requires-clause-fits : goal.value-value-requires-clause-fits
value-value-requires-clause-fits c = each_within c.args.context.width (tree_of c.args.shapes.now) c.args.items.now c.loop-item.item-index c.requires.within c.loop-item-test.true

pub push_pattern-requires : goal.push_pattern-requires
push_pattern-requires c = omega (arith, c.value-value.ensures.length, c.requires.short)

pub loop-item-preserved : goal.loop-item-preserved
loop-item-preserved c =
    let tree = tree_of c.args.shapes.now in
    let k = c.loop-item.item-index in
    let ns = c.args.items.now in
    let left = λ (m : ℕ). item_patterns c.args.kind c.args.n c.args.context.width c.args.context.signed (items_of (map tree (drop m ns))) in
    let step = items_step c.args.kind c.args.n c.args.context.width c.args.context.signed tree ns k c.value-value.result c.loop-item-test.true c.value-value.ensures.value in
    ap (λ (ps : List Pattern). ps ++ left (k + 1)) c.in_ok-push_pattern.ensures ∙ moved c.loop-item.patterns.items (patterns_of c.args.kind c.args.n c.value-value.result) (left k) (left (k + 1)) _ c.loop-item.invariant step

pub returns : goal.returns
returns c =
    let tree = tree_of c.args.shapes.now in
    sym (ap (λ (ns : List ℕ). c.loop-item.patterns.items ++ item_patterns c.args.kind c.args.n c.args.context.width c.args.context.signed (items_of (map tree ns))) (drop_all c.loop-item.item-index c.args.items.now c.loop-item-test.false) ∙ append-nil c.loop-item.patterns.items)
    ∙ c.loop-item.invariant
