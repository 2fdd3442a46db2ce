use Rattle.std.proofs.Common.{◌≡◌, map, take}
use Rattle.std.specs.Prelude.{fold}
use Rattle.vs_design.specs.Expressions as E
use Rattle.vs_flat.specs.Trees.{no_expression}
use Rattle.vs_shape.specs.Nodes.{tree_of}
use Rattle.vs_shape.specs.Shapes.{shape_of}
use Rattle.vs_shape.proofs.shapes.Shapes.+shape.Given as goal

abbrev pub decreases-shape : goal.decreases-shape
decreases-shape l = l.e

-- the parts so far, joined
abbrev pub invariant-loop-part : goal.invariant-loop-part
invariant-loop-part l = l.all ≡ shape_of (fold E.Join no_expression (map (tree_of l.self) (take l.part-index l.part-items)))
