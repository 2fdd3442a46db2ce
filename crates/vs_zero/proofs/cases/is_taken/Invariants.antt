use Rattle.std.proofs.Common.{◌≡◌, drop, map}
use Rattle.vs_design.specs.Expressions.{items_of}
use Rattle.vs_design.specs.Bodies.{is_taken}
use Rattle.vs_sets.specs.Nodes.{tree_of}
use Rattle.vs_zero.specs.States.{unknown}
use Rattle.vs_zero.proofs.cases.is_taken.Given as goal

abbrev pub invariant-loop-item : goal.invariant-loop-item
invariant-loop-item l =
    is_taken l.kind l.context.width l.context.signed l.subject (items_of (map (tree_of l.shapes) (drop l.item-index l.items))) unknown
    ≡ is_taken l.kind l.context.width l.context.signed l.subject (items_of (map (tree_of l.shapes) l.items)) unknown
