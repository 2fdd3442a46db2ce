use Rattle.std.proofs.Common.{◌≡◌, ◌++◌, drop, map}
use Rattle.vs_design.specs.Expressions.{items_of}
use Rattle.vs_design.specs.Selects.{item_patterns}
use Rattle.vs_shape.specs.Nodes.{tree_of}
use Rattle.vs_full.proofs.full.push_items.Given as goal

abbrev pub invariant-loop-item : goal.invariant-loop-item
invariant-loop-item l =
    l.patterns.items ++ item_patterns l.kind l.n l.context.width l.context.signed (items_of (map (tree_of l.shapes) (drop l.item-index l.items)))
    ≡ l.initial.patterns.items ++ item_patterns l.kind l.n l.context.width l.context.signed (items_of (map (tree_of l.shapes) l.items))
