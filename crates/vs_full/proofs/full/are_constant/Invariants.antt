use Rattle.std.proofs.Common.{◌≡◌, drop, map}
use Rattle.vs_design.specs.Expressions.{items_of}
use Rattle.vs_design.specs.Selects.{items_constant}
use Rattle.vs_shape.specs.Nodes.{tree_of}
use Rattle.vs_full.proofs.full.are_constant.Given as goal

abbrev pub invariant-loop-item : goal.invariant-loop-item
invariant-loop-item l = items_constant (items_of (map (tree_of l.shapes) (drop l.item-index l.items))) ≡ items_constant (items_of (map (tree_of l.shapes) l.items))
