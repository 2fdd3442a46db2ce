use Rattle.std.proofs.Common.{◌∙◌}
use Rattle.vs_shape.specs.Nodes.{tree_of}
use Rattle.vs_typed.proofs.FoundSteps.{item_step}
use Rattle.vs_typed.proofs.least.least_items.Goals as goal

pub loop-item-preserved : goal.loop-item-preserved
loop-item-preserved c at =
    item_step c.args.rule at (tree_of c.args.shapes.now) c.args.items.now c.loop-item.item-index c.loop-item.least c.least_in-least.result c.loop-item-test.true (c.least_in-least.ensures at) ∙ c.loop-item.invariant at
