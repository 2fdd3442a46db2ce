use Rattle.std.proofs.Common.{ap, ◌∙◌, map}
use Rattle.vs_design.specs.Expressions.{items_of}
use Rattle.vs_design.specs.Fits.{fit_items}
use Rattle.vs_sets.specs.Nodes.{tree_of}
use Rattle.vs_sets.specs.StatementParts.{statement_of}
use Rattle.vs_sets.proofs.CaseSteps.{arm_fit}
use Rattle.vs_sets.proofs.contexts.case_context.Goals as goal

pub with_items-all-requires-clause-fit : goal.with_items-all-requires-clause-fit
with_items-all-requires-clause-fit c =
    let a = c.args.shapes.now in
    ap (λ ns. fit_items (items_of (map (tree_of a) ns))) (c.as_slice.ensures ∙ ap (λ y. y.items) c.arm-item.is)
    ∙ arm_fit (tree_of a) (statement_of a) c.args.other c.args.arms.now c.loop-arm.arm-index c.arm-item.result c.requires.fit c.loop-arm-test.true
