use Rattle.std.proofs.Common.{◌≡◌, ◌++◌, map, drop}
use Rattle.vs_flat.specs.Trees.{joined}
use Rattle.vs_shape.specs.Nodes.{tree_of}
use Rattle.vs_shape.specs.Gathered.{gathered, gathered_items}
use Rattle.vs_design.specs.Expressions.{items_of}
use Rattle.vs_shape.proofs.shapes.Shapes.+push_reads.Given as goal

abbrev pub decreases-push_reads : goal.decreases-push_reads
decreases-push_reads l = l.e

-- what was gathered, with what the parts that are left read
abbrev pub invariant-loop-part : goal.invariant-loop-part
invariant-loop-part l =
    l.out.items ++ gathered l.whole (joined (map (tree_of l.self) (drop l.part-index l.part-items))) ≡ l.initial.out.items ++ gathered l.whole (joined (map (tree_of l.self) l.part-items))

-- and with the arguments that are left
abbrev pub invariant-loop-argument : goal.invariant-loop-argument
invariant-loop-argument l =
    l.out.items ++ gathered_items l.whole (items_of (map (tree_of l.self) (drop l.argument-index l.argument-items))) ≡ l.initial.out.items ++ gathered_items l.whole (items_of (map (tree_of l.self) l.argument-items))
