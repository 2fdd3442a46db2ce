-- Each goes to earlier statements.
use Rattle.std.proofs.Common.{◌≡◌, ◌+◌, ◌*◌, ◌&&◌, map, drop}
use Rattle.vs_flat.specs.Trees.{sequence, arms_tree}
use Rattle.vs_shape.specs.Bodies.{body_of}
use Rattle.vs_shape.specs.Nodes.{tree_of}
use Rattle.vs_typed.specs.Still.{is_still, arms_still}
use Rattle.vs_typed.proofs.constant.+fixing.Given as goal

abbrev pub decreases-is_still : goal.decreases-is_still
decreases-is_still l = 3 * l.s + 2

abbrev pub decreases-is_branch_still : goal.decreases-is_branch_still
decreases-is_branch_still l = 3 * l.s

abbrev pub decreases-are_arms_still : goal.decreases-are_arms_still
decreases-are_arms_still l = 3 * l.s + 1

abbrev pub decreases-are_still : goal.decreases-are_still
decreases-are_still l = 3 * l.s

abbrev pub invariant-are_arms_still-loop-arm : goal.invariant-are_arms_still-loop-arm
invariant-are_arms_still-loop-arm l =
    (l.all && arms_still (arms_tree (tree_of l.shapes) (body_of l.shapes) l.other (drop l.arm-index l.arms))) ≡ arms_still (arms_tree (tree_of l.shapes) (body_of l.shapes) l.other l.arms)

abbrev pub invariant-are_still-loop-part : goal.invariant-are_still-loop-part
invariant-are_still-loop-part l = (l.all && is_still (sequence (map (body_of l.shapes) (drop l.part-index l.parts)))) ≡ is_still (sequence (map (body_of l.shapes) l.parts))
