use Rattle.std.proofs.Common.{ℕ, List, map, sym, ap, ◌∙◌}
use Rattle.vs_flat.specs.declared.statements.Arm.{Arm}
use Rattle.vs_flat.specs.Trees.{branch}
use Rattle.vs_design.specs.Expressions.{items_of}
use Rattle.vs_shape.specs.Nodes.{tree_of}
use Rattle.vs_shape.specs.Bodies.{body_of, body_of_statement, body_place}
use Rattle.vs_shape.proofs.Walking.{arm_at}
use Rattle.vs_typed.specs.Places.{least_from, places_of, item_places, statement_places, arms_places}
use Rattle.vs_typed.specs.Weights.{arms_of}
use Rattle.vs_typed.proofs.LeastSteps.{from_append, two_more}
use Rattle.vs_typed.proofs.FoundSteps.{sequence_step, arm_step}
use Rattle.vs_typed.proofs.least.+finding.Goals as goal

pub least_all-loop-part-preserved : goal.least_all-loop-part-preserved
least_all-loop-part-preserved t c at =
    sequence_step c.args.rule at (body_of c.args.shapes.now) c.args.parts.now c.loop-part.part-index c.loop-part.least c.least_statement-least.result c.loop-part-test.true (c.least_statement-least.ensures at) ∙ c.loop-part.invariant at

pub least_arms-loop-arm-preserved : goal.least_arms-loop-arm-preserved
least_arms-loop-arm-preserved t c at =
    let a = c.args.shapes.now in
    let rule = c.args.rule in
    arm_step rule at (tree_of a) (body_of a) c.args.other c.args.arms.now c.loop-arm.arm-index c.arm-item.result c.loop-arm.least c.least_items-least.result c.least_statement-least.result
    (arm_at c.args.arms.now c.loop-arm.arm-index c.arm-item.result c.arm-item.is c.loop-arm-test.true)
    (c.least_items-least.ensures at ∙ ap (λ (xs : List ℕ). least_from c.loop-arm.least (item_places rule at (items_of (map (tree_of a) xs)))) c.as_slice.ensures) (c.least_statement-least.ensures at)
    ∙ c.loop-arm.invariant at

pub least_branch-returns-in-Some : goal.least_branch-returns-in-Some
least_branch-returns-in-Some t c at =
    c.least_statement.ensures at ∙ ap (λ o. least_from c.args.best (statement_places c.args.rule at (branch (body_of c.args.shapes.now) o))) (sym c.in-Some.is)

pub least_statement-returns-in-If : goal.least_statement-returns-in-If
least_statement-returns-in-If t c at =
    let a = c.args.shapes.now in
    let rule = c.args.rule in
    let tree = c.statement_in.ensures.tree ∙ ap (body_of_statement a (body_place a c.args.s)) c.in-If.is in
    let condition = places_of rule at (tree_of a c.in-If.c) in
    let taken = statement_places rule at (body_of a c.in-If.yes) in
    let other = statement_places rule at (branch (body_of a) c.in-If.no) in
    c.least_branch.ensures at ∙ ap (λ b. least_from b other) (c.least_statement-taken.ensures at ∙ ap (λ b. least_from b taken) (c.least_in-condition.ensures at))
    ∙ two_more c.args.best condition taken other ∙ ap (λ s. least_from c.args.best (statement_places rule at s)) (sym tree)

pub least_statement-returns-in-Case : goal.least_statement-returns-in-Case
least_statement-returns-in-Case t c at =
    let a = c.args.shapes.now in
    let rule = c.args.rule in
    let tree = c.statement_in.ensures.tree ∙ ap (body_of_statement a (body_place a c.args.s)) c.in-Case.is in
    let subject = places_of rule at (tree_of a c.in-Case.of) in
    let arms = arms_places rule at (arms_of a c.in-Case.other c.in-Case.arms) in
    c.least_arms.ensures at ∙ ap (λ (xs : List Arm). least_from c.least_in-subject.result (arms_places rule at (arms_of a c.in-Case.other xs))) c.as_slice.ensures
    ∙ ap (λ b. least_from b arms) (c.least_in-subject.ensures at) ∙ sym (from_append c.args.best subject arms) ∙ ap (λ s. least_from c.args.best (statement_places rule at s)) (sym tree)
