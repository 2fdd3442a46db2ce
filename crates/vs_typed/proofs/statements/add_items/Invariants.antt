use Rattle.std.proofs.Common.{◌≡◌, ◌≤◌, ◌+◌, map, drop}
use Rattle.vs_design.specs.Sizes.{items_weight}
use Rattle.vs_design.specs.Expressions.{items_of}
use Rattle.vs_typed.specs.Weights.{capped}
use Rattle.vs_shape.specs.Nodes.{tree_of}
use Rattle.vs_typed.proofs.statements.add_items.Given as goal

abbrev pub invariant-loop-item : goal.invariant-loop-item
invariant-loop-item l = (capped (l.sum + items_weight (items_of (map (tree_of l.shapes) (drop l.item-index l.items))) l.w) ≡ capped (l.initial.sum + items_weight (items_of (map (tree_of l.shapes) l.items)) l.w)) × (l.sum ≤ 18446744073709551615)
