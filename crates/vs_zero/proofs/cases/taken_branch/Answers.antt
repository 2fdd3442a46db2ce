use Rattle.std.proofs.Common.{map, sym, ap, ◌∙◌}
use Rattle.vs_design.specs.Expressions.{items_of}
use Rattle.vs_design.specs.Fits.{fit_items}
use Rattle.vs_sets.specs.Matches.{are_within}
use Rattle.vs_sets.specs.Nodes.{tree_of}
use Rattle.vs_sets.specs.StatementParts.{statement_of}
use Rattle.vs_typed.specs.Still.{items_still}
use Rattle.vs_zero.proofs.CaseSteps.{arm_constant}
use Rattle.vs_sets.proofs.CaseSteps.{arm_fit, items_at-is}
use Rattle.vs_zero.proofs.cases.taken_branch.Goals as goal

pub is_taken-requires-clause-fit : goal.is_taken-requires-clause-fit
is_taken-requires-clause-fit c =
    let a = c.args.shapes.now in
    ap (λ ns. fit_items (items_of (map (tree_of a) ns))) (c.as_slice.ensures ∙ ap (λ y. y.items) c.arm-item.is)
    ∙ arm_fit (tree_of a) (statement_of a) c.args.other c.args.arms.now c.loop-arm.arm-index c.arm-item.result c.requires.fit c.loop-arm-test.true

pub is_taken-requires-clause-constant : goal.is_taken-requires-clause-constant
is_taken-requires-clause-constant c =
    let a = c.args.shapes.now in
    ap (λ ns. items_still (items_of (map (tree_of a) ns))) (c.as_slice.ensures ∙ ap (λ y. y.items) c.arm-item.is)
    ∙ arm_constant (tree_of a) (statement_of a) c.args.other c.args.arms.now c.loop-arm.arm-index c.arm-item.result c.requires.constant c.loop-arm-test.true

pub is_taken-requires-clause-within : goal.is_taken-requires-clause-within
is_taken-requires-clause-within c =
    let a = c.args.shapes.now in
    let k = c.loop-arm.arm-index in
    ap (λ ns. are_within c.args.context.width (map (tree_of a) ns)) (c.as_slice.ensures ∙ ap (λ y. y.items) c.arm-item.is ∙ sym (items_at-is c.args.arms.now k c.arm-item.result c.loop-arm-test.true))
    ∙ c.requires.within k c.loop-arm-test.true
