use Rattle.std.proofs.Common.{◌≡◌, ◌++◌, take}
use Rattle.vs_shape.specs.Nodes.{tree_of}
use Rattle.vs_block.proofs.TargetParts.{each_assigns}
use Rattle.vs_block.proofs.targets.+push_assigned.Given as goal

abbrev pub decreases-push_assigned : goal.decreases-push_assigned
decreases-push_assigned l = l.e

-- what the parts so far assign
abbrev pub invariant-loop-part : goal.invariant-loop-part
invariant-loop-part l = l.out.items ≡ l.initial.out.items ++ each_assigns (tree_of l.shapes) (take l.part-index l.part-items)
