use Rattle.std.proofs.Common.{ap, ◌∙◌}
use Rattle.vs_design.specs.Statements.{target_width}
use Rattle.vs_flat.specs.Trees.{target_tree}
use Rattle.vs_shape.specs.Nodes.{tree_of}
use Rattle.vs_typed.specs.Places.{least_from, own_places, places_of, target_places}
use Rattle.vs_typed.proofs.LeastSteps.{two_more}
use Rattle.vs_typed.proofs.least.least_assignment.Goals as goal

pub returns : goal.returns
returns c place =
    let a = c.args.shapes.now in
    let rule = c.args.rule in
    let target = target_tree (tree_of a c.args.target) in
    let e = tree_of a c.args.e in
    c.least_in.ensures place ∙ ap (λ b. least_from b (places_of rule place e)) (c.least_target-indices.ensures c.args.at ∙ ap (λ b. least_from b (target_places rule c.args.at target)) c.least_own-own.ensures)
    ∙ two_more c.args.best (own_places rule c.args.at (target_width target)) (target_places rule c.args.at target) (places_of rule place e)
