-- Each goes to earlier statements.
use Rattle.std.proofs.Common.{◌≡◌, ◌≤◌, ◌+◌, ◌*◌, map, drop}
use Rattle.vs_design.specs.Sizes.{arms_weight, statement_weight}
use Rattle.vs_flat.specs.Trees.{sequence}
use Rattle.vs_shape.specs.Bodies.{body_of}
use Rattle.vs_typed.specs.Weights.{arms_of, capped}
use Rattle.vs_typed.proofs.statements.+adding.Given as goal

abbrev pub decreases-add_statement : goal.decreases-add_statement
decreases-add_statement l = 3 * l.s + 2

abbrev pub decreases-add_branch : goal.decreases-add_branch
decreases-add_branch l = 3 * l.s

abbrev pub decreases-add_arms : goal.decreases-add_arms
decreases-add_arms l = 3 * l.s + 1

abbrev pub decreases-add_all : goal.decreases-add_all
decreases-add_all l = 3 * l.s

abbrev pub invariant-add_arms-loop-arm : goal.invariant-add_arms-loop-arm
invariant-add_arms-loop-arm l = (capped (l.sum + arms_weight (arms_of l.shapes l.other (drop l.arm-index l.arms)) l.w l.written) ≡ capped (l.initial.sum + arms_weight (arms_of l.shapes l.other l.arms) l.w l.written)) × (l.sum ≤ 18446744073709551615)

abbrev pub invariant-add_all-loop-part : goal.invariant-add_all-loop-part
invariant-add_all-loop-part l = (capped (l.sum + statement_weight (sequence (map (body_of l.shapes) (drop l.part-index l.parts)))) ≡ capped (l.initial.sum + statement_weight (sequence (map (body_of l.shapes) l.parts)))) × (l.sum ≤ 18446744073709551615)
