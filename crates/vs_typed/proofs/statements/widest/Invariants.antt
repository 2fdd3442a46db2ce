use Rattle.std.proofs.Common.{◌≡◌, map, drop}
use Rattle.vs_design.specs.Statements.{widest}
use Rattle.vs_design.specs.Expressions.{items_of}
use Rattle.vs_shape.specs.Nodes.{tree_of}
use Rattle.vs_typed.proofs.statements.widest.Given as goal

abbrev pub invariant-loop-item : goal.invariant-loop-item
invariant-loop-item l = widest l.most (items_of (map (tree_of l.shapes) (drop l.item-index l.items))) ≡ widest l.initial.most (items_of (map (tree_of l.shapes) l.items))
