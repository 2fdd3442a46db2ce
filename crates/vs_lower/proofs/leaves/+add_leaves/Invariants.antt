use Rattle.std.proofs.Common.{take}
use Rattle.std.specs.List.{flat_map}
use Rattle.vs_flat.specs.DesignOf.{arena_trees}
use Rattle.vs_flat.specs.Trees.{target_tree, tree_at}
use Rattle.vs_lower.specs.Leaves.{AddsLeaves, leaves_of}
use Rattle.vs_lower.proofs.leaves.+add_leaves.Given as goal

abbrev pub decreases-add_leaves : goal.decreases-add_leaves
decreases-add_leaves l = l.target

abbrev pub invariant-loop-part : goal.invariant-loop-part
invariant-loop-part l = AddsLeaves l.templates l.initial.leaves.items l.leaves.items (flat_map (λ p. leaves_of (target_tree (tree_at (arena_trees l.templates.arena) p))) (take l.part-index l.parts))
