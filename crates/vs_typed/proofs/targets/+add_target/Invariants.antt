use Rattle.std.proofs.Common.{◌≡◌, ◌≤◌, ◌+◌, map, drop}
use Rattle.vs_shape.specs.Nodes.{tree_of}
use Rattle.vs_typed.specs.Weights.{capped}
use Rattle.vs_typed.proofs.WeightSteps.{target_weights}
use Rattle.vs_typed.proofs.targets.+add_target.Given as goal

abbrev pub decreases-add_target : goal.decreases-add_target
decreases-add_target l = l.e

abbrev pub invariant-loop-part : goal.invariant-loop-part
invariant-loop-part l = (capped (l.sum + target_weights (map (tree_of l.shapes) (drop l.part-index l.part-items))) ≡ capped (l.initial.sum + target_weights (map (tree_of l.shapes) l.part-items))) × (l.sum ≤ 18446744073709551615)
