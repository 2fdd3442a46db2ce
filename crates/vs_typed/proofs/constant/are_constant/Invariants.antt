use Rattle.std.proofs.Common.{◌≡◌, ◌&&◌, map, drop}
use Rattle.vs_design.specs.Expressions.{items_of}
use Rattle.vs_shape.specs.Nodes.{tree_of}
use Rattle.vs_typed.specs.Still.{items_still}
use Rattle.vs_typed.proofs.constant.are_constant.Given as goal

abbrev pub invariant-loop-item : goal.invariant-loop-item
invariant-loop-item l = (l.all && items_still (items_of (map (tree_of l.shapes) (drop l.item-index l.items)))) ≡ items_still (items_of (map (tree_of l.shapes) l.items))
