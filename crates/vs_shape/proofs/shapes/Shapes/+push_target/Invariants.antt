use Rattle.std.proofs.Common.{◌≡◌, ◌++◌, drop}
use Rattle.vs_design.specs.Footprints.{target_bits}
use Rattle.vs_shape.specs.Nodes.{tree_of}
use Rattle.vs_shape.proofs.TargetParts.{each_target}
use Rattle.vs_shape.proofs.shapes.Shapes.+push_target.Given as goal

abbrev pub decreases-push_target : goal.decreases-push_target
decreases-push_target l = l.e

-- what was gathered, with what is gathered of the parts that are left
abbrev pub invariant-loop-part : goal.invariant-loop-part
invariant-loop-part l = l.out.items ++ each_target target_bits (tree_of l.self) (drop l.part-index l.part-items) ≡ l.initial.out.items ++ each_target target_bits (tree_of l.self) l.part-items
