use Rattle.std.proofs.Common.{◌≡◌, ◌≤◌, drop, map}
use Rattle.vs_design.specs.Expressions.{items_of}
use Rattle.vs_design.specs.Statements.{widest, all_signed}
use Rattle.vs_sets.specs.Nodes.{tree_of}
use Rattle.vs_sets.proofs.contexts.with_items.Given as goal

abbrev pub invariant-loop-item : goal.invariant-loop-item
invariant-loop-item l = record {
  len : widest l.all.width (items_of (map (tree_of l.shapes) (drop l.item-index l.items))) ≡ widest l.fn.context.width (items_of (map (tree_of l.shapes) l.items));
  sign : all_signed l.all.signed (items_of (map (tree_of l.shapes) (drop l.item-index l.items))) ≡ all_signed l.fn.context.signed (items_of (map (tree_of l.shapes) l.items));
  few : l.all.width ≤ 64;
}
