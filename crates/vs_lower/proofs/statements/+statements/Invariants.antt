-- Each goes to earlier statements, and between them to smaller parts of the same one.
use Rattle.std.proofs.Common.{◌≡◌, ◌+◌, ◌*◌, ◌-◌, drop, length, map}
use Rattle.vs_design.specs.Footprints.{arms_bits}
use Rattle.vs_design.specs.Sizes.{distinct}
use Rattle.vs_flat.specs.DesignOf.{arena_trees}
use Rattle.vs_flat.specs.Trees.{arms_tree, tree_at}
use Rattle.vs_shape.specs.Bodies.{body_of}
use Rattle.vs_lower.specs.Stated.{AddsCases}
use Rattle.vs_lower.proofs.Ordered.{IsUpTo}
use Rattle.vs_lower.proofs.statements.+statements.Given as goal

abbrev pub decreases-statement : goal.decreases-statement
decreases-statement l = 8 * l.s + 7

abbrev pub decreases-in_order : goal.decreases-in_order
decreases-in_order l = 8 * l.s + 6

abbrev pub decreases-conditional : goal.decreases-conditional
decreases-conditional l = 8 * l.s + 6

abbrev pub decreases-case : goal.decreases-case
decreases-case l = 8 * l.s + 6

abbrev pub decreases-branches : goal.decreases-branches
decreases-branches l = 8 * l.s + 5

abbrev pub decreases-arm : goal.decreases-arm
decreases-arm l = 8 * l.s + 4

abbrev pub decreases-apart : goal.decreases-apart
decreases-apart l = 8 * l.s + 3

abbrev pub decreases-optional : goal.decreases-optional
decreases-optional l = 8 * l.s + 2

abbrev pub invariant-in_order-loop-n : goal.invariant-in_order-loop-n
invariant-in_order-loop-n l =
    IsUpTo (length l.initial.env.values) l.initial.env.values l.initial.env.ahead l.initial.code (map (body_of l.templates.arena) l.parts) (map (body_of l.templates.arena) (drop l.n l.parts)) l.env.values l.env.ahead l.code

abbrev pub invariant-branches-loop-k : goal.invariant-branches-loop-k
invariant-branches-loop-k l =
    AddsCases l.fn.env.values l.fn.env.ahead l.subject l.fn.code l.code l.kind l.context.width l.context.signed
    (distinct (arms_bits (arms_tree (tree_at (arena_trees l.templates.arena)) (body_of l.templates.arena) l.fn.other l.arms))) (arms_tree (tree_at (arena_trees l.templates.arena)) (body_of l.templates.arena) l.fn.other (drop (length l.arms - l.k) l.arms)) l.bits l.behind.values.items l.behind.ahead.items
    × (l.env.values ≡ l.fn.env.values)
    × (l.env.ahead ≡ l.fn.env.ahead)
