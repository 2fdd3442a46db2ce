use Rattle.std.proofs.Common.{◌≡◌, ℕ, map, drop}
use Rattle.vs_shape.specs.Nodes.{tree_of}
use Rattle.vs_typed.specs.Places.{least_from}
use Rattle.vs_typed.proofs.FoundSteps.{part_targets}
use Rattle.vs_typed.proofs.least.+least_target.Given as goal

abbrev pub decreases-least_target : goal.decreases-least_target
decreases-least_target l = l.e

abbrev pub invariant-loop-part : goal.invariant-loop-part
invariant-loop-part l =
    (at : ℕ) → least_from l.least (part_targets l.rule at (map (tree_of l.shapes) (drop l.part-index l.part-items))) ≡ least_from l.initial.least (part_targets l.rule at (map (tree_of l.shapes) l.part-items))
