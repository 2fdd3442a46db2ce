use Rattle.std.proofs.Common.{◌≡◌, ◌+◌, ℕ, List, map, ap, ◌∙◌, arith}
use Rattle.std.specs.Prelude.{get_or}
use Rattle.vs_design.specs.Expressions.{items_of}
use Rattle.vs_design.specs.Sizes.{weight, items_weight}
use Rattle.vs_shape.specs.Nodes.{tree_of}
use Rattle.vs_typed.specs.Weights.{capped}
use Rattle.vs_typed.proofs.LeastSteps.{drop_none}
use Rattle.vs_typed.proofs.WeightSteps.{item_step}
use Rattle.vs_typed.proofs.statements.add_items.Goals as goal

pub loop-item-preserved : goal.loop-item-preserved
loop-item-preserved c =
    let tree = tree_of c.args.shapes.now in
    let k = c.loop-item.item-index in
    let items = c.args.items.now in
    let one : c.add_weight-sum.result ≡ capped (c.loop-item.sum + (c.args.w + 1 + weight (tree (get_or items k 0)) c.args.w)) = omega (arith, c.add_weight-sum.ensures, c.plus-own.ensures, c.plus.ensures) in
    (item_step tree items c.args.w k c.loop-item.sum c.add_weight-sum.result c.loop-item-test.true one ∙ c.loop-item.invariant.0, omega (arith, one))

pub returns : goal.returns
returns c =
    let none = ap (λ (ps : List ℕ). items_weight (items_of (map (tree_of c.args.shapes.now) ps)) c.args.w) (drop_none c.args.items.now c.loop-item.item-index c.loop-item-test.false) in
    omega (arith, c.loop-item.invariant.0, c.loop-item.invariant.1, none)
