use Rattle.std.proofs.Common.{ap, sym, ◌∙◌}
use Rattle.vs_design.specs.Refusals.{least}
use Rattle.vs_flat.specs.Targets as T
use Rattle.vs_flat.specs.Trees.{target_tree}
use Rattle.vs_shape.specs.Nodes.{tree_of}
use Rattle.vs_typed.specs.Places.{process_places, assignment_places}
use Rattle.vs_typed.proofs.FoundSteps.{found_kind}
use Rattle.vs_typed.proofs.refused.least_process.Goals as goal

pub returns-in-Assign : goal.returns-in-Assign
returns-in-Assign c x h =
    let a = c.args.shapes.now in
    let rule = c.args.rule in
    let at = c.process.result.now.at in
    let same = found_kind c.trees_law.ensures.processes a c.args.p c.process.result.now _ x c.process.ensures.is c.in-Assign.is h in
    c.least_assignment.ensures at
    ∙ ap (λ n. least (assignment_places rule n at (target_tree (tree_of a c.in-Assign.target)) (tree_of a c.in-Assign.expr))) (c.expression_place-at.ensures ∙ sym (ap T.place_of c.node.ensures.tree))
    ∙ ap (λ y. least (process_places rule y)) same

pub returns-in-Block : goal.returns-in-Block
returns-in-Block c x h =
    let a = c.args.shapes.now in
    let same = found_kind c.trees_law.ensures.processes a c.args.p c.process.result.now _ x c.process.ensures.is c.in-Block.is h in
    c.least_statement.ensures c.process.result.now.at ∙ ap (λ y. least (process_places c.args.rule y)) same
