use Rattle.std.proofs.Common.{◌≡◌, ◌&&◌, map, drop}
use Rattle.vs_shape.specs.Nodes.{tree_of}
use Rattle.vs_typed.proofs.StillSteps.{selects_all}
use Rattle.vs_typed.proofs.constant.+has_constant_selects.Given as goal

abbrev pub decreases-has_constant_selects : goal.decreases-has_constant_selects
decreases-has_constant_selects l = l.e

abbrev pub invariant-loop-part : goal.invariant-loop-part
invariant-loop-part l = (l.all && selects_all (map (tree_of l.shapes) (drop l.part-index l.part-items))) ≡ selects_all (map (tree_of l.shapes) l.part-items)
