-- Each goes to earlier statements.
use Rattle.std.proofs.Common.{◌≡◌, ◌+◌, ◌*◌, ℕ, map, drop}
use Rattle.vs_flat.specs.Trees.{sequence}
use Rattle.vs_shape.specs.Bodies.{body_of}
use Rattle.vs_typed.specs.Places.{least_from, statement_places, arms_places}
use Rattle.vs_typed.specs.Weights.{arms_of}
use Rattle.vs_typed.proofs.least.+finding.Given as goal

abbrev pub decreases-least_statement : goal.decreases-least_statement
decreases-least_statement l = 3 * l.s + 2

abbrev pub decreases-least_branch : goal.decreases-least_branch
decreases-least_branch l = 3 * l.s

abbrev pub decreases-least_arms : goal.decreases-least_arms
decreases-least_arms l = 3 * l.s + 1

abbrev pub decreases-least_all : goal.decreases-least_all
decreases-least_all l = 3 * l.s

abbrev pub invariant-least_arms-loop-arm : goal.invariant-least_arms-loop-arm
invariant-least_arms-loop-arm l = (at : ℕ) → least_from l.least (arms_places l.rule at (arms_of l.shapes l.other (drop l.arm-index l.arms))) ≡ least_from l.initial.least (arms_places l.rule at (arms_of l.shapes l.other l.arms))

abbrev pub invariant-least_all-loop-part : goal.invariant-least_all-loop-part
invariant-least_all-loop-part l =
    (at : ℕ) → least_from l.least (statement_places l.rule at (sequence (map (body_of l.shapes) (drop l.part-index l.parts)))) ≡ least_from l.initial.least (statement_places l.rule at (sequence (map (body_of l.shapes) l.parts)))
