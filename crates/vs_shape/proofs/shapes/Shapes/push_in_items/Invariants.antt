use Rattle.std.proofs.Common.{◌≡◌, ◌++◌, map, drop}
use Rattle.vs_design.specs.Expressions.{items_of}
use Rattle.vs_shape.specs.Nodes.{tree_of}
use Rattle.vs_shape.specs.Gathered.{walked_items}
use Rattle.vs_shape.proofs.shapes.Shapes.push_in_items.Given as goal

abbrev pub invariant-loop-item : goal.invariant-loop-item
invariant-loop-item l = l.out.items ++ walked_items l.walk (items_of (map (tree_of l.self) (drop l.item-index l.items))) ≡ l.initial.out.items ++ walked_items l.walk (items_of (map (tree_of l.self) l.items))
