use Rattle.std.proofs.Common.{◌≡◌, length, map, take}
use Rattle.vs_flat.specs.DesignOf.{arena_trees}
use Rattle.vs_flat.specs.Trees.{tree_at}
use Rattle.vs_lower.specs.Tested.{AddsTests}
use Rattle.vs_lower.proofs.cases.tests.Given as goal

abbrev pub invariant-loop-n : goal.invariant-loop-n
invariant-loop-n l =
    (length l.matches.items ≡ l.n)
    × AddsTests l.env l.subject l.initial.code l.code l.kind l.context.width l.context.signed (take l.n (map (tree_at (arena_trees l.templates.arena)) l.items)) l.matches.items
