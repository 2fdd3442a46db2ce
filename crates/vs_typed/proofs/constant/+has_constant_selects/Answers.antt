use Rattle.std.proofs.Common.{◌&&◌, ℕ, List, length, map, sym, ap, ◌∙◌, subst, arith}
use Rattle.vs_design.specs.Elaborated.{has_constant_selects}
use Rattle.vs_design.specs.Expressions.{At}
use Rattle.vs_flat.specs.Trees.{joined, first_copy, copy_count, target_tree}
use Rattle.vs_shape.specs.Nodes.{EachBelow, HasNames, tree_of, place_of, tree_of_node}
use Rattle.vs_typed.specs.Places.{HasTargetTree}
use Rattle.vs_typed.proofs.LeastSteps.{drop_none, copy_below}
use Rattle.vs_typed.proofs.FoundSteps.{part_target, one_copy}
use Rattle.vs_typed.proofs.StillSteps.{and_end, selects_all, joined_selects}
use Rattle.vs_typed.proofs.constant.+has_constant_selects.Goals as goal

pub has_constant_selects-requires : goal.has_constant_selects-requires
has_constant_selects-requires t c =
    let a = c.args.shapes.now in
    let place = place_of a c.args.e in
    let tree = c.node.ensures.tree ∙ ap (λ n. At place (tree_of_node a n)) c.in-Join.is in
    let names = subst (HasNames (length a.signals) c.args.e) c.in-Join.is c.node.ensures.names in
    let copy = c.first_copy-part-items.result.now in
    let copied = c.first_copy-part-items.ensures.copy ∙ ap first_copy c.as_slice.ensures in
    let below = copy_below c.args.e c.as_slice.result.now copy (subst (EachBelow c.args.e) (sym c.as_slice.ensures) names) c.first_copy-part-items.ensures.prefix c.first_copy-part-items.ensures.short c.loop-part.part-index c.loop-part-test.true in
    let one = one_copy place (copy_count c.in-Join.parts) (joined (map (tree_of a) (first_copy c.in-Join.parts))) (subst HasTargetTree tree c.requires.target) in
    let target = subst (λ (ps : List ℕ). HasTargetTree (joined (map (tree_of a) ps))) (sym copied) one.target in
    (omega (arith, below), (omega (arith, below, c.requires.there), part_target (tree_of a) copy c.loop-part.part-index c.loop-part-test.true target))

pub returns-after-loop-part : goal.returns-after-loop-part
returns-after-loop-part t c =
    let a = c.args.shapes.now in
    let place = place_of a c.args.e in
    let tree = c.node.ensures.tree ∙ ap (λ n. At place (tree_of_node a n)) c.in-Join.is in
    let copy = c.first_copy-part-items.result.now in
    let copied = c.first_copy-part-items.ensures.copy ∙ ap first_copy c.as_slice.ensures in
    let all = c.loop-part.all in
    let parts = first_copy c.in-Join.parts in
    let one = one_copy place (copy_count c.in-Join.parts) (joined (map (tree_of a) parts)) (subst HasTargetTree tree c.requires.target) in
    sym (and_end all) ∙ ap (λ (ps : List ℕ). all && selects_all (map (tree_of a) ps)) (sym (drop_none copy c.loop-part.part-index c.loop-part-test.false)) ∙ c.loop-part.invariant
    ∙ ap (λ (ps : List ℕ). selects_all (map (tree_of a) ps)) copied ∙ sym (joined_selects (map (tree_of a) parts) one.target) ∙ sym (ap has_constant_selects (ap target_tree tree ∙ one.same))
