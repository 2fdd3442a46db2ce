use Rattle.std.proofs.Common.{◌≡◌, ◌+◌, ◌*◌, ◌++◌, map, max, drop}
use Rattle.vs_shape.specs.Nodes.{tree_of}
use Rattle.vs_shape.proofs.PartValues.{parts_value}
use Rattle.vs_shape.proofs.shapes.Shapes.+values.Given as goal

abbrev pub decreases-constant_value : goal.decreases-constant_value
decreases-constant_value l = 8 * l.e + 8

abbrev pub decreases-value : goal.decreases-value
decreases-value l = 8 * l.e + 7

abbrev pub decreases-joined_value : goal.decreases-joined_value
decreases-joined_value l = 8 * l.e + 1

abbrev pub decreases-select_value : goal.decreases-select_value
decreases-select_value l = 8 * l.index + 9

abbrev pub decreases-unary_value : goal.decreases-unary_value
decreases-unary_value l = 8 * l.a + 10

abbrev pub decreases-unary_applied : goal.decreases-unary_applied
decreases-unary_applied l = 8 * l.a + 9

abbrev pub decreases-binary_value : goal.decreases-binary_value
decreases-binary_value l = 8 * max l.a l.b + 10

abbrev pub decreases-binary_applied : goal.decreases-binary_applied
decreases-binary_applied l = 8 * max l.a l.b + 9

-- the parts so far, with those that are left
abbrev pub invariant-joined_value-loop-n : goal.invariant-joined_value-loop-n
invariant-joined_value-loop-n l = parts_value (map (tree_of l.self) (drop l.n l.parts)) ++ l.whole ≡ parts_value (map (tree_of l.self) l.parts)
