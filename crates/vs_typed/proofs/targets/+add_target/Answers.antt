use Rattle.std.proofs.Common.{◌≡◌, ◌+◌, ℕ, List, length, map, drop, sym, ap, ◌∙◌, subst, arith}
use Rattle.vs_design.specs.Expressions.{At}
use Rattle.vs_design.specs.Sizes.{target_weight}
use Rattle.vs_flat.specs.Trees.{joined, first_copy, copy_count, target_tree}
use Rattle.vs_shape.specs.Nodes.{EachBelow, HasNames, tree_of, place_of, tree_of_node}
use Rattle.vs_sets.specs.TargetsOf.{IsTarget}
use Rattle.vs_typed.specs.Weights.{capped}
use Rattle.vs_typed.proofs.LeastSteps.{drop_none, copy_below}
use Rattle.vs_typed.proofs.WeightSteps.{target_weights, part_target, copy_target, joined_targets, target_step}
use Rattle.vs_typed.proofs.targets.+add_target.Goals as goal

pub add_target-sum-requires : goal.add_target-sum-requires
add_target-sum-requires t c =
    let a = c.args.shapes.now in
    let place = place_of a c.args.e in
    let tree = c.node_in.ensures.tree ∙ ap (λ n. At place (tree_of_node a n)) c.in-Join.is in
    let names = subst (HasNames (length a.signals) c.args.e) c.in-Join.is c.node_in.ensures.names in
    let copy = c.first_copy-part-items.result.now in
    let copied = c.first_copy-part-items.ensures.copy ∙ ap first_copy c.as_slice.ensures in
    let below = copy_below c.args.e c.as_slice.result.now copy (subst (EachBelow c.args.e) (sym c.as_slice.ensures) names) c.first_copy-part-items.ensures.prefix c.first_copy-part-items.ensures.short c.loop-part.part-index c.loop-part-test.true in
    let one = copy_target place (copy_count c.in-Join.parts) (joined (map (tree_of a) (first_copy c.in-Join.parts))) (subst IsTarget tree c.requires.target) in
    let target = subst (λ (ps : List ℕ). IsTarget (joined (map (tree_of a) ps))) (sym copied) one.target in
    (omega (arith, below), (c.requires.table, (omega (arith, below, c.requires.there), part_target (tree_of a) copy c.loop-part.part-index c.loop-part-test.true target)))

pub loop-part-preserved : goal.loop-part-preserved
loop-part-preserved t c =
    (target_step (tree_of c.args.shapes.now) c.first_copy-part-items.result.now c.loop-part.part-index c.loop-part.sum c.add_target-sum.result c.loop-part-test.true c.add_target-sum.ensures ∙ c.loop-part.invariant.0, omega (arith, c.add_target-sum.ensures))

pub returns-after-loop-part : goal.returns-after-loop-part
returns-after-loop-part t c =
    let a = c.args.shapes.now in
    let place = place_of a c.args.e in
    let tree = c.node_in.ensures.tree ∙ ap (λ n. At place (tree_of_node a n)) c.in-Join.is in
    let copy = c.first_copy-part-items.result.now in
    let copied = c.first_copy-part-items.ensures.copy ∙ ap first_copy c.as_slice.ensures in
    let parts = first_copy c.in-Join.parts in
    let x = joined (map (tree_of a) parts) in
    let one = copy_target place (copy_count c.in-Join.parts) x (subst IsTarget tree c.requires.target) in
    let left : capped (c.loop-part.sum + target_weights (map (tree_of a) (drop c.loop-part.part-index copy))) ≡ capped (c.args.total + target_weights (map (tree_of a) copy)) = c.loop-part.invariant.0 in
    let none : target_weights (map (tree_of a) (drop c.loop-part.part-index copy)) ≡ 0 = ap (λ (ps : List ℕ). target_weights (map (tree_of a) ps)) (drop_none copy c.loop-part.part-index c.loop-part-test.false) in
    let all : target_weights (map (tree_of a) copy) ≡ target_weights (map (tree_of a) parts) = ap (λ (ps : List ℕ). target_weights (map (tree_of a) ps)) copied in
    let whole : target_weight (target_tree (tree_of a c.args.e)) ≡ target_weights (map (tree_of a) parts) = ap target_weight (ap target_tree tree ∙ one.same) ∙ joined_targets (map (tree_of a) parts) one.target in
    omega (arith, left, none, all, whole, c.loop-part.invariant.1)
