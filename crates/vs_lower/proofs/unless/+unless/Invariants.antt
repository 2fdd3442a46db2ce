-- Each goes to earlier statements, and between them to smaller parts of the same one.
use Rattle.std.proofs.Common.{◌+◌, ◌*◌, drop, length, map}
use Rattle.std.specs.List.{All}
use Rattle.vs_design.specs.Footprints.{arms_bits}
use Rattle.vs_design.specs.Sizes.{distinct}
use Rattle.vs_flat.specs.DesignOf.{arena_trees}
use Rattle.vs_flat.specs.Trees.{arms_tree, tree_at}
use Rattle.vs_shape.specs.Bodies.{body_of}
use Rattle.vs_lower.specs.Unless.{HasTargetNode}
use Rattle.vs_lower.proofs.Descending.{ArmsUpTo}
use Rattle.vs_lower.proofs.Unlessed.{IsUpTo}
use Rattle.vs_lower.proofs.unless.+unless.Given as goal

abbrev pub decreases-unless : goal.decreases-unless
decreases-unless l = 8 * l.s + 7

abbrev pub decreases-parts_unless : goal.decreases-parts_unless
decreases-parts_unless l = 8 * l.s + 6

abbrev pub decreases-if_unless : goal.decreases-if_unless
decreases-if_unless l = 8 * l.s + 6

abbrev pub decreases-case_unless : goal.decreases-case_unless
decreases-case_unless l = 8 * l.s + 6

abbrev pub decreases-arms_unless : goal.decreases-arms_unless
decreases-arms_unless l = 8 * l.s + 5

abbrev pub decreases-arm_unless : goal.decreases-arm_unless
decreases-arm_unless l = 8 * l.s + 4

abbrev pub decreases-branch_unless : goal.decreases-branch_unless
decreases-branch_unless l = 8 * l.s + 2

abbrev pub invariant-parts_unless-loop-n : goal.invariant-parts_unless-loop-n
invariant-parts_unless-loop-n l =
    IsUpTo l.templates.arena (length l.initial.env) l.initial.env l.bar l.initial.code l.initial.updates.items (map (body_of l.templates.arena) l.parts) (map (body_of l.templates.arena) (drop l.n l.parts)) l.env l.code l.updates.items
    × (All (HasTargetNode l.templates) l.initial.updates.items → All (HasTargetNode l.templates) l.updates.items)

abbrev pub invariant-arms_unless-loop-k : goal.invariant-arms_unless-loop-k
invariant-arms_unless-loop-k l =
    ArmsUpTo l.templates.arena (length l.initial.env) l.initial.env l.fn.bar l.subject l.initial.code l.initial.updates.items l.kind l.context.width l.context.signed
    (distinct (arms_bits (arms_tree (tree_at (arena_trees l.templates.arena)) (body_of l.templates.arena) l.fn.other l.arms))) (arms_tree (tree_at (arena_trees l.templates.arena)) (body_of l.templates.arena) l.fn.other l.arms)
    (arms_tree (tree_at (arena_trees l.templates.arena)) (body_of l.templates.arena) l.fn.other (drop l.k l.arms)) l.env l.behind l.code l.updates.items
    × (All (HasTargetNode l.templates) l.initial.updates.items → All (HasTargetNode l.templates) l.updates.items)
