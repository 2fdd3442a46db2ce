use Rattle.std.proofs.Common.{◌+◌, ◌++◌, List, ℕ, drop, map, sym, ap, ◌∙◌, append-nil}
use Rattle.std.proofs.lemmas.List.{drop_all}
use Rattle.vs_design.specs.Covers.{Pattern}
use Rattle.vs_design.specs.Expressions.{items_of}
use Rattle.vs_design.specs.Fits.{fit_items}
use Rattle.vs_design.specs.Selects.{arm_patterns, item_patterns, items_constant}
use Rattle.vs_flat.specs.declared.statements.Arm.{Arm}
use Rattle.vs_sets.specs.Matches.{are_within}
use Rattle.vs_sets.specs.StatementParts.{arms_of, statement_of}
use Rattle.vs_sets.proofs.CaseSteps.{arm_fit, items_at-is}
use Rattle.vs_sets.proofs.Steps.{moved}
use Rattle.vs_shape.specs.Nodes.{tree_of}
use Rattle.vs_full.proofs.Forming.{arm_constant, arm_patterns_step}
use Rattle.vs_full.proofs.full.patterns_of.Goals as goal

pub push_items-requires-clause-fit : goal.push_items-requires-clause-fit
push_items-requires-clause-fit c =
    let a = c.args.shapes.now in
    ap (λ ns. fit_items (items_of (map (tree_of a) ns))) (c.as_slice.ensures ∙ ap (λ y. y.items) c.arm-item.is)
    ∙ arm_fit (tree_of a) (statement_of a) c.args.other c.args.arms.now c.loop-arm.arm-index c.arm-item.result c.requires.fit c.loop-arm-test.true

pub push_items-requires-clause-constant : goal.push_items-requires-clause-constant
push_items-requires-clause-constant c =
    let a = c.args.shapes.now in
    ap (λ ns. items_constant (items_of (map (tree_of a) ns))) (c.as_slice.ensures ∙ ap (λ y. y.items) c.arm-item.is)
    ∙ arm_constant (tree_of a) (statement_of a) c.args.other c.args.arms.now c.loop-arm.arm-index c.arm-item.result c.requires.constant c.loop-arm-test.true

pub push_items-requires-clause-within : goal.push_items-requires-clause-within
push_items-requires-clause-within c =
    let a = c.args.shapes.now in
    let k = c.loop-arm.arm-index in
    ap (λ ns. are_within c.args.context.width (map (tree_of a) ns)) (c.as_slice.ensures ∙ ap (λ y. y.items) c.arm-item.is ∙ sym (items_at-is c.args.arms.now k c.arm-item.result c.loop-arm-test.true))
    ∙ c.requires.within k c.loop-arm-test.true

pub loop-arm-preserved : goal.loop-arm-preserved
loop-arm-preserved c =
    let a = c.args.shapes.now in
    let k = c.loop-arm.arm-index in
    let left = λ (m : ℕ). arm_patterns c.args.kind c.args.n c.args.context.width c.args.context.signed (arms_of a c.args.other (drop m c.args.arms.now)) in
    let step = arm_patterns_step c.args.kind c.args.n c.args.context.width c.args.context.signed (tree_of a) (statement_of a) c.args.other c.args.arms.now k c.arm-item.result c.as_slice.result.now c.loop-arm-test.true c.arm-item.is c.as_slice.ensures in
    ap (λ (ps : List Pattern). ps ++ left (k + 1)) c.in_ok-push_items.ensures
    ∙ moved c.loop-arm.patterns.items (item_patterns c.args.kind c.args.n c.args.context.width c.args.context.signed (items_of (map (tree_of a) c.as_slice.result.now))) (left k) (left (k + 1)) _ c.loop-arm.invariant step

pub returns : goal.returns
returns c =
    let a = c.args.shapes.now in
    sym (ap (λ (xs : List Arm). c.loop-arm.patterns.items ++ arm_patterns c.args.kind c.args.n c.args.context.width c.args.context.signed (arms_of a c.args.other xs)) (drop_all c.loop-arm.arm-index c.args.arms.now c.loop-arm-test.false) ∙ append-nil c.loop-arm.patterns.items)
    ∙ c.loop-arm.invariant
