use Rattle.std.proofs.Common.{◌≡◌, ◌<◌, ◌++◌, ℕ, List, length, get_or, sym, ap, ◌∙◌, subst, arith}
use Rattle.std.proofs.lemmas.List.{take_all}
use Rattle.vs_design.specs.Expressions as E
use Rattle.vs_design.specs.Latches.{assigns}
use Rattle.vs_flat.specs.Trees.{target_tree}
use Rattle.vs_shape.specs.Nodes.{EachBelow, HasNames, tree_of, place_of, tree_of_node}
use Rattle.vs_shape.specs.Walked.{IsTarget}
use Rattle.vs_block.proofs.TargetParts.{each_assigns, each_more, target_parts}
use Rattle.vs_block.proofs.targets.+push_assigned.Goals as goal

pub push_assigned-requires : goal.push_assigned-requires
push_assigned-requires t c =
    let a = c.args.shapes.now in
    let tree = c.node.ensures.tree ∙ ap (λ n. E.At (place_of a c.args.e) (tree_of_node a n)) c.in-Join.is in
    let parts = target_parts (tree_of a) (place_of a c.args.e) c.in-Join.parts (subst IsTarget tree c.requires.target) in
    let same : c.as_slice-part-items.result.now ≡ c.in-Join.parts = c.as_slice-part-items.ensures in
    let k = c.loop-part.part-index in
    let names : EachBelow c.args.e c.as_slice-part-items.result.now = subst (EachBelow c.args.e) (sym same) (subst (HasNames (length a.signals) c.args.e) c.in-Join.is c.node.ensures.names) in
    let below : get_or c.as_slice-part-items.result.now k 0 < c.args.e = names k c.loop-part-test.true in
    (omega arith, (omega (arith, below, c.requires.there), subst (λ (ps : List ℕ). IsTarget (tree_of a (get_or ps k 0))) (sym same) (parts.each k (omega (arith, ap length same)))))

pub loop-part-preserved : goal.loop-part-preserved
loop-part-preserved t c =
    let tree = tree_of c.args.shapes.now in
    let ps = c.as_slice-part-items.result.now in
    c.in_ok-push_assigned-in-Join.ensures ∙ ap (λ bs. bs ++ assigns (target_tree (tree (get_or ps c.loop-part.part-index 0)))) c.loop-part.invariant ∙ each_more tree ps c.args.out.now.items c.loop-part.part-index c.loop-part-test.true

pub returns-after-loop-part : goal.returns-after-loop-part
returns-after-loop-part t c =
    let a = c.args.shapes.now in
    let tree = c.node.ensures.tree ∙ ap (λ n. E.At (place_of a c.args.e) (tree_of_node a n)) c.in-Join.is in
    let parts = target_parts (tree_of a) (place_of a c.args.e) c.in-Join.parts (subst IsTarget tree c.requires.target) in
    let same : c.as_slice-part-items.result.now ≡ c.in-Join.parts = c.as_slice-part-items.ensures in
    c.loop-part.invariant
    ∙ ap (λ (ps : List ℕ). c.args.out.now.items ++ each_assigns (tree_of a) ps) (take_all c.loop-part.part-index c.as_slice-part-items.result.now c.loop-part-test.false ∙ same)
    ∙ ap (λ bs. c.args.out.now.items ++ bs) (sym parts.is ∙ ap (λ e. assigns (target_tree e)) (sym tree))
