-- Each goes to earlier statements.
use Rattle.std.proofs.Common.{◌≡◌, ◌+◌, ◌*◌, map, take}
use Rattle.vs_design.specs.Latches.{assigned_in_arms, early_in_arms}
use Rattle.vs_flat.specs.Trees.{arms_tree}
use Rattle.vs_shape.specs.Nodes.{tree_of}
use Rattle.vs_sets.specs.Completing.{done}
use Rattle.vs_block.specs.Walked.{IsWalked}
use Rattle.vs_block.proofs.Branching.{AreWalked}
use Rattle.vs_block.proofs.paths.+walking.Given as goal

abbrev pub decreases-walk : goal.decreases-walk
decreases-walk l = 3 * l.s + 2

abbrev pub decreases-walk_branch : goal.decreases-walk_branch
decreases-walk_branch l = 3 * l.s

abbrev pub decreases-walk_arm : goal.decreases-walk_arm
decreases-walk_arm l = 3 * l.s

abbrev pub decreases-walk_arms : goal.decreases-walk_arms
decreases-walk_arms l = 3 * l.s + 1

abbrev pub decreases-walk_parts : goal.decreases-walk_parts
decreases-walk_parts l = 3 * l.s + 1

abbrev pub invariant-walk_arms-loop-arm : goal.invariant-walk_arms-loop-arm
invariant-walk_arms-loop-arm l =
    let arms = arms_tree (tree_of l.shapes) (done l.defaults.complete l.shapes) l.fn.other (take l.arm-index l.arms) in
    record {
      same : l.assigned ≡ l.fn.assigned;
      walked : IsWalked l.own (assigned_in_arms arms) (early_in_arms arms) l.fn.assigned l.fn.early l.early l.found.items;
    }

abbrev pub invariant-walk_parts-loop-part : goal.invariant-walk_parts-loop-part
invariant-walk_parts-loop-part l = AreWalked l.own (map (done l.defaults.complete l.shapes) (take l.part-index l.parts)) l.initial.assigned l.assigned l.initial.early l.early l.found.items
