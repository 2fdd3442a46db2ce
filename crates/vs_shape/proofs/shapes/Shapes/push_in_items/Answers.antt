use Rattle.vs_shape.specs.Nodes.{tree_of}
use Rattle.vs_shape.proofs.Walking.{item_fits, with_item, all_items}
use Rattle.vs_shape.proofs.shapes.Shapes.push_in_items.Goals as goal

pub push_in_expression-requires-clause-fit : goal.push_in_expression-requires-clause-fit
push_in_expression-requires-clause-fit c = item_fits (tree_of c.args.self.now) c.args.items.now c.loop-item.item-index c.requires.fit c.loop-item-test.true

pub loop-item-preserved : goal.loop-item-preserved
loop-item-preserved c =
    with_item c.args.walk (tree_of c.args.self.now) c.args.items.now c.loop-item.item-index c.loop-item.out.items c.push_in_expression.new.out.items _ c.loop-item-test.true c.loop-item.invariant c.in_ok-push_in_expression.ensures

pub returns : goal.returns
returns c = all_items c.args.walk (tree_of c.args.self.now) c.args.items.now c.loop-item.item-index c.loop-item.out.items _ c.loop-item-test.false c.loop-item.invariant
