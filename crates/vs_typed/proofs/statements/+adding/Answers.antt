use Rattle.std.proofs.Common.{◌≡◌, ◌+◌, ℕ, List, length, map, sym, ap, ◌∙◌, subst, arith}
use Rattle.vs_design.specs.Fits.{fits_statement}
use Rattle.vs_flat.specs.declared.statements.Statement.{Statement}
use Rattle.vs_flat.specs.declared.statements.Arm.{Arm}
use Rattle.vs_sets.specs.StatementParts.{HasStatementNames, FitStatement, statement_of_node, place_of_statement}
use Rattle.vs_sets.specs.Twice.{PartsFit}
use Rattle.vs_sets.proofs.TwiceSteps.{parts_fit}
use Rattle.vs_design.specs.Expressions.{items_of}
use Rattle.vs_design.specs.Sizes.{items_weight, statement_weight}
use Rattle.vs_shape.specs.Nodes.{tree_of}
use Rattle.vs_shape.proofs.Walking.{arm_at}
use Rattle.vs_typed.specs.Weights.{capped}
use Rattle.vs_flat.specs.Trees.{sequence}
use Rattle.vs_shape.specs.Bodies.{body_of}
use Rattle.vs_typed.specs.Reach.{node_reach}
use Rattle.vs_typed.specs.Weights.{EachArmFits}
use Rattle.vs_typed.proofs.LeastSteps.{drop_none}
use Rattle.vs_typed.proofs.WeightSteps.{arm_step, arms_fit, sequence_step}
use Rattle.vs_typed.proofs.statements.+adding.Goals as goal

pub add_statement-arms_width-w-requires-clause-each : goal.add_statement-arms_width-w-requires-clause-each
add_statement-arms_width-w-requires-clause-each t c =
    let a = c.args.shapes.now in
    let made = statement_of_node a (place_of_statement a c.args.s) in
    let names = subst (HasStatementNames (node_reach a (length c.args.table.now)) c.args.s) c.in-Case.is c.fit_statement.ensures.names in
    let parts = subst (λ (x : Statement). FitStatement (made x)) c.in-Case.is c.fit_statement.ensures.parts in
    let fit = arms_fit a (node_reach a (length c.args.table.now)) c.args.s c.in-Case.arms c.in-Case.other names.1 names.2 parts.1 in
    subst (λ (xs : List Arm). EachArmFits a (node_reach a (length c.args.table.now)) c.args.s xs) (sym c.as_slice.ensures) fit.0

pub add_statement-add_arms-requires : goal.add_statement-add_arms-requires
add_statement-add_arms-requires t c =
    let a = c.args.shapes.now in
    let made = statement_of_node a (place_of_statement a c.args.s) in
    let names = subst (HasStatementNames (node_reach a (length c.args.table.now)) c.args.s) c.in-Case.is c.fit_statement.ensures.names in
    let parts = subst (λ (x : Statement). FitStatement (made x)) c.in-Case.is c.fit_statement.ensures.parts in
    let fit = arms_fit a (node_reach a (length c.args.table.now)) c.args.s c.in-Case.arms c.in-Case.other names.1 names.2 parts.1 in
    (omega arith, (c.requires.table, (omega (arith, c.requires.there), (subst (λ (xs : List Arm). EachArmFits a (node_reach a (length c.args.table.now)) c.args.s xs) (sym c.as_slice-in-Case.ensures) fit.0, fit.1))))

pub add_statement-add_all-requires : goal.add_statement-add_all-requires
add_statement-add_all-requires t c =
    let a = c.args.shapes.now in
    let tree = c.fit_statement.ensures.tree ∙ ap (statement_of_node a (place_of_statement a c.args.s)) c.in-Seq.is in
    let names = subst (HasStatementNames (node_reach a (length c.args.table.now)) c.args.s) c.in-Seq.is c.fit_statement.ensures.names in
    let fit = parts_fit a c.args.s c.in-Seq.parts names (ap fits_statement (sym tree) ∙ c.requires.fit) in
    (omega arith, (c.requires.table, (omega (arith, c.requires.there), subst (λ (ps : List ℕ). PartsFit a c.args.s ps) (sym c.as_slice-in-Seq.ensures) fit)))

pub add_all-loop-part-preserved : goal.add_all-loop-part-preserved
add_all-loop-part-preserved t c =
    let step = sequence_step (body_of c.args.shapes.now) c.args.parts.now c.loop-part.part-index c.loop-part.sum c.in_ok-sum.sum c.loop-part-test.true c.in_ok-sum.ensures in
    (step ∙ c.loop-part.invariant.0, omega (arith, c.in_ok-sum.ensures))

pub add_all-returns : goal.add_all-returns
add_all-returns t c =
    let none = ap (λ (ps : List ℕ). statement_weight (sequence (map (body_of c.args.shapes.now) ps))) (drop_none c.args.parts.now c.loop-part.part-index c.loop-part-test.false) in
    omega (arith, c.loop-part.invariant.0, c.loop-part.invariant.1, none)

pub add_arms-loop-arm-preserved : goal.add_arms-loop-arm-preserved
add_arms-loop-arm-preserved t c =
    let a = c.args.shapes.now in
    let arms = c.args.arms.now in
    let arm = c.arm-item.result in
    let k = c.loop-arm.arm-index in
    let items : c.add_items-items.result ≡ capped (c.loop-arm.sum + items_weight (items_of (map (tree_of a) arm.items)) c.args.w) =
    c.add_items-items.ensures ∙ ap (λ (xs : List ℕ). capped (c.loop-arm.sum + items_weight (items_of (map (tree_of a) xs)) c.args.w)) c.as_slice.ensures
    in
    let one : c.in_ok-sum.sum ≡ capped (c.loop-arm.sum + (items_weight (items_of (map (tree_of a) arm.items)) c.args.w + c.args.written + statement_weight (body_of a arm.statement))) = omega (arith, c.in_ok-sum.ensures, c.plus.ensures, items) in
    let step = arm_step (tree_of a) (body_of a) c.args.other arms c.args.w c.args.written k c.loop-arm.sum c.in_ok-sum.sum arm (arm_at arms k arm c.arm-item.is c.loop-arm-test.true) one in
    (step ∙ c.loop-arm.invariant.0, omega (arith, one))
