use Rattle.std.proofs.Common.{ℕ, List, length, map, sym, ap, ◌∙◌, subst, arith}
use Rattle.vs_design.specs.Expressions.{At}
use Rattle.vs_flat.specs.Trees.{joined, first_copy, copy_count, target_tree}
use Rattle.vs_shape.specs.Nodes.{EachBelow, HasNames, tree_of, place_of, tree_of_node}
use Rattle.vs_typed.specs.Places.{least_from, places_of, target_places, HasTargetTree}
use Rattle.vs_typed.proofs.LeastSteps.{from_append, from_none, drop_none, copy_below}
use Rattle.vs_typed.proofs.FoundSteps.{part_targets, part_target, one_copy, joined_targets, target_step}
use Rattle.vs_typed.proofs.least.+least_target.Goals as goal

pub least_target-least-requires : goal.least_target-least-requires
least_target-least-requires t c =
    let a = c.args.shapes.now in
    let place = place_of a c.args.e in
    let tree = c.node_in.ensures.tree ∙ ap (λ n. At place (tree_of_node a n)) c.in-Join.is in
    let names = subst (HasNames (length a.signals) c.args.e) c.in-Join.is c.node_in.ensures.names in
    let copy = c.first_copy-part-items.result.now in
    let copied = c.first_copy-part-items.ensures.copy ∙ ap first_copy c.as_slice.ensures in
    let below = copy_below c.args.e c.as_slice.result.now copy (subst (EachBelow c.args.e) (sym c.as_slice.ensures) names) c.first_copy-part-items.ensures.prefix c.first_copy-part-items.ensures.short c.loop-part.part-index c.loop-part-test.true in
    let one = one_copy place (copy_count c.in-Join.parts) (joined (map (tree_of a) (first_copy c.in-Join.parts))) (subst HasTargetTree tree c.requires.target) in
    let target = subst (λ (ps : List ℕ). HasTargetTree (joined (map (tree_of a) ps))) (sym copied) one.target in
    (omega (arith, below), (c.requires.table, (omega (arith, below, c.requires.there), part_target (tree_of a) copy c.loop-part.part-index c.loop-part-test.true target)))

pub loop-part-preserved : goal.loop-part-preserved
loop-part-preserved t c at =
    target_step c.args.rule at (tree_of c.args.shapes.now) c.first_copy-part-items.result.now c.loop-part.part-index c.loop-part.least c.least_target-least.result c.loop-part-test.true (c.least_target-least.ensures at) ∙ c.loop-part.invariant at

pub returns-after-loop-part : goal.returns-after-loop-part
returns-after-loop-part t c at =
    let a = c.args.shapes.now in
    let rule = c.args.rule in
    let best = c.args.best in
    let place = place_of a c.args.e in
    let tree = c.node_in.ensures.tree ∙ ap (λ n. At place (tree_of_node a n)) c.in-Join.is in
    let copy = c.first_copy-part-items.result.now in
    let copied = c.first_copy-part-items.ensures.copy ∙ ap first_copy c.as_slice.ensures in
    let x = joined (map (tree_of a) (first_copy c.in-Join.parts)) in
    let one = one_copy place (copy_count c.in-Join.parts) x (subst HasTargetTree tree c.requires.target) in
    sym (from_none c.loop-part.least) ∙ ap (λ (ps : List ℕ). least_from c.loop-part.least (part_targets rule at (map (tree_of a) ps))) (sym (drop_none copy c.loop-part.part-index c.loop-part-test.false)) ∙ c.loop-part.invariant at
    ∙ ap (λ (ps : List ℕ). least_from best (part_targets rule at (map (tree_of a) ps))) copied ∙ ap (least_from best) (sym (joined_targets rule at (map (tree_of a) (first_copy c.in-Join.parts)) one.target))
    ∙ ap (λ u. least_from best (target_places rule at u)) (sym (ap target_tree tree ∙ one.same))

pub returns-in-WordPart : goal.returns-in-WordPart
returns-in-WordPart t c at =
    let a = c.args.shapes.now in
    let rule = c.args.rule in
    let best = c.args.best in
    let address = places_of rule at (tree_of a c.in-WordPart.address) in
    let index = places_of rule at (tree_of a c.in-WordPart.base) in
    let tree = c.node_in.ensures.tree ∙ ap (λ n. At (place_of a c.args.e) (tree_of_node a n)) c.in-WordPart.is in
    c.least_in.ensures at ∙ ap (λ b. least_from b index) (c.least_in-first.ensures at) ∙ sym (from_append best address index) ∙ ap (λ e. least_from best (target_places rule at (target_tree e))) (sym tree)
