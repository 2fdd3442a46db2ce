use Rattle.std.proofs.Common.{◌≡◌, ◌++◌, map, drop}
use Rattle.vs_flat.specs.Trees.{arms_tree, sequence}
use Rattle.vs_shape.specs.Nodes.{tree_of}
use Rattle.vs_shape.specs.Bodies.{body_of}
use Rattle.vs_shape.specs.Gathered.{walked_arms, walked_statement}
use Rattle.vs_shape.proofs.shapes.Shapes.+push_statement.Given as goal

abbrev pub decreases-push_statement : goal.decreases-push_statement
decreases-push_statement l = l.s

-- what was gathered, with what is gathered of the arms that are left
abbrev pub invariant-loop-arm : goal.invariant-loop-arm
invariant-loop-arm l =
    l.out.items ++ walked_arms l.walk (arms_tree (tree_of l.self) (body_of l.self) l.other (drop l.arm-index l.arm-items))
    ≡ l.initial.out.items ++ walked_arms l.walk (arms_tree (tree_of l.self) (body_of l.self) l.other l.arm-items)

-- and of the parts that are left
abbrev pub invariant-loop-part : goal.invariant-loop-part
invariant-loop-part l =
    l.out.items ++ walked_statement l.walk (sequence (map (body_of l.self) (drop l.part-index l.part-items))) ≡ l.initial.out.items ++ walked_statement l.walk (sequence (map (body_of l.self) l.part-items))
