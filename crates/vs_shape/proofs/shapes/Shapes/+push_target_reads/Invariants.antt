use Rattle.std.proofs.Common.{◌≡◌, ◌++◌, drop}
use Rattle.vs_shape.specs.Gathered.{gathered_target}
use Rattle.vs_shape.specs.Nodes.{tree_of}
use Rattle.vs_shape.proofs.TargetParts.{each_target}
use Rattle.vs_shape.proofs.shapes.Shapes.+push_target_reads.Given as goal

abbrev pub decreases-push_target_reads : goal.decreases-push_target_reads
decreases-push_target_reads l = l.e

-- what was gathered, with what is gathered of the parts that are left
abbrev pub invariant-loop-part : goal.invariant-loop-part
invariant-loop-part l = l.out.items ++ each_target (gathered_target l.whole) (tree_of l.self) (drop l.part-index l.part-items) ≡ l.initial.out.items ++ each_target (gathered_target l.whole) (tree_of l.self) l.part-items
