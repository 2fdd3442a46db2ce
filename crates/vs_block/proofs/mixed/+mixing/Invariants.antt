-- Each goes to earlier statements.
use Rattle.std.proofs.Common.{◌≡◌, ◌+◌, ◌*◌, ◌++◌, ℕ, List, map, take}
use Rattle.vs_design.specs.Refusals.{least}
use Rattle.vs_flat.specs.declared.statements.Arm.{Arm}
use Rattle.vs_shape.specs.Bodies.{body_of}
use Rattle.vs_block.specs.Mixed.{mixed_of}
use Rattle.vs_block.proofs.mixed.+mixing.Given as goal

abbrev pub decreases-least_mixed : goal.decreases-least_mixed
decreases-least_mixed l = 2 * l.s + 1

abbrev pub decreases-least_in_branch : goal.decreases-least_in_branch
decreases-least_in_branch l = 2 * l.s

abbrev pub decreases-least_in_arms : goal.decreases-least_in_arms
decreases-least_in_arms l = 2 * l.s

abbrev pub decreases-least_in_parts : goal.decreases-least_in_parts
decreases-least_in_parts l = 2 * l.s

abbrev pub invariant-least_in_arms-loop-arm : goal.invariant-least_in_arms-loop-arm
invariant-least_in_arms-loop-arm l = (places : List ℕ) → l.fn.first ≡ least places → l.so_far ≡ least (places ++ mixed_of (map (λ (arm : Arm). body_of l.shapes arm.statement) (take l.arm-index l.arms)))

abbrev pub invariant-least_in_parts-loop-part : goal.invariant-least_in_parts-loop-part
invariant-least_in_parts-loop-part l = (places : List ℕ) → l.fn.first ≡ least places → l.so_far ≡ least (places ++ mixed_of (map (body_of l.shapes) (take l.part-index l.parts)))
