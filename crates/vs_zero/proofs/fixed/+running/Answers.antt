use Rattle.std.proofs.Common.{◌≡◌, ℕ, ◌+◌, length, get_or, List, map, drop, sym, ap, ap₂, ◌∙◌, subst, arith}
use Rattle.std.proofs.lemmas.List.{drop_all}
use Rattle.vs_net.specs.Network.{write_all}
use Rattle.vs_design.specs.Bodies.{arms_body}
use Rattle.vs_design.specs.Values.{value}
use Rattle.vs_design.specs.Statements.{arms_width, arms_sign, case_width, case_sign}
use Rattle.vs_flat.specs.declared.statements.Arm.{Arm}
use Rattle.vs_flat.specs.Trees.{branch, sequence, target_tree}
use Rattle.vs_sets.specs.Nodes.{tree_of}
use Rattle.vs_sets.specs.StatementParts.{HasStatementNames, arms_of, statement_of, statement_of_node, place_of_statement}
use Rattle.vs_design.specs.Footprints.{statement_bits}
use Rattle.vs_zero.proofs.Below.{left_has, part_writes, right_has, taken_below}
use Rattle.vs_zero.specs.Constants.{IsFixed, WritesBelow, part_of, given, IsFixedBranch, EachIsFixed, taken_arm, arms_are_constants}
use Rattle.vs_zero.specs.States.{state_of, unknown}
use Rattle.vs_sets.proofs.CaseSteps.{arms_grow, arm_within}
use Rattle.vs_sets.proofs.Fit.{fits-from_fit}
use Rattle.vs_zero.proofs.Fixing.{fixed_assign, fixed_if, fixed_case, taken_fixed, parts_fixed, parts_step, given_nothing, given_assigned, given_other, given_arms}
use Rattle.vs_zero.proofs.fixed.+running.Goals as goal

pub run_part-assign-requires-clause-constant : goal.run_part-assign-requires-clause-constant
run_part-assign-requires-clause-constant t c =
    let a = c.args.shapes.now in
    let made = statement_of_node a (place_of_statement a c.args.s) in
    let tree = c.statement_node.ensures.tree ∙ ap made c.in-Assign.is in
    (fixed_assign (place_of_statement a c.args.s) (target_tree (tree_of a c.in-Assign.target)) (tree_of a c.in-Assign.expr) c.in-Assign.blocking (subst IsFixed tree c.requires.fixed)).constant

pub run_part-constant_value-requires-clause-valued : goal.run_part-constant_value-requires-clause-valued
run_part-constant_value-requires-clause-valued t c =
    let a = c.args.shapes.now in
    let made = statement_of_node a (place_of_statement a c.args.s) in
    let tree = c.statement_node.ensures.tree ∙ ap made c.in-If.is in
    let f = fixed_if (tree_of a c.in-If.c) (statement_of a c.in-If.yes) (branch (statement_of a) c.in-If.no) (subst IsFixed tree c.requires.fixed) in
    record { constant = f.constant; fits = fits-from_fit (tree_of a c.in-If.c) f.fit }

pub run_part-run_part-requires : goal.run_part-run_part-requires
run_part-run_part-requires t c =
    let a = c.args.shapes.now in
    let made = statement_of_node a (place_of_statement a c.args.s) in
    let tree = c.statement_node.ensures.tree ∙ ap made c.in-If.is in
    let names = subst (HasStatementNames (length a.nodes) c.args.s) c.in-If.is c.statement_node.ensures.names in
    let f = fixed_if (tree_of a c.in-If.c) (statement_of a c.in-If.yes) (branch (statement_of a) c.in-If.no) (subst IsFixed tree c.requires.fixed) in
    let below = subst (WritesBelow (length c.args.state.now)) tree c.requires.within in
    (omega (arith, names.1), (λ b k. below b (left_has (statement_bits (statement_of a c.in-If.yes)) (statement_bits (branch (statement_of a) c.in-If.no)) b k), (omega (arith, names.1, c.requires.there), f.taken_fixed)))

pub run_part-run_branch-requires : goal.run_part-run_branch-requires
run_part-run_branch-requires t c =
    let a = c.args.shapes.now in
    let made = statement_of_node a (place_of_statement a c.args.s) in
    let tree = c.statement_node.ensures.tree ∙ ap made c.in-If.is in
    let names = subst (HasStatementNames (length a.nodes) c.args.s) c.in-If.is c.statement_node.ensures.names in
    let f = fixed_if (tree_of a c.in-If.c) (statement_of a c.in-If.yes) (branch (statement_of a) c.in-If.no) (subst IsFixed tree c.requires.fixed) in
    let below = subst (WritesBelow (length c.args.state.now)) tree c.requires.within in
    (omega arith, (λ b k. below b (right_has (statement_bits (statement_of a c.in-If.yes)) (statement_bits (branch (statement_of a) c.in-If.no)) b k), (omega (arith, c.requires.there), record { earlier = names.2; fixed = f.other_fixed })))

pub run_part-value-subject-requires-clause-valued : goal.run_part-value-subject-requires-clause-valued
run_part-value-subject-requires-clause-valued t c =
    let a = c.args.shapes.now in
    let made = statement_of_node a (place_of_statement a c.args.s) in
    let tree = c.statement_node.ensures.tree ∙ ap made c.in-Case.is in
    let f = fixed_case c.in-Case.kind (tree_of a c.in-Case.of) (arms_of a c.in-Case.other c.in-Case.arms) (subst IsFixed tree c.requires.fixed) in
    record { constant = f.constant; fits = fits-from_fit (tree_of a c.in-Case.of) f.fit }

pub run_part-value-subject-requires-clause-fits : goal.run_part-value-subject-requires-clause-fits
run_part-value-subject-requires-clause-fits t c =
    let a = c.args.shapes.now in
    omega (arith, c.own_context.ensures.width, c.case_context-context.ensures.width, arms_grow (arms_of a c.in-Case.other c.as_slice.result.now) c.own_context.result.width)

pub run_part-taken_branch-taken-requires-clause-constant : goal.run_part-taken_branch-taken-requires-clause-constant
run_part-taken_branch-taken-requires-clause-constant t c =
    let a = c.args.shapes.now in
    let made = statement_of_node a (place_of_statement a c.args.s) in
    let tree = c.statement_node.ensures.tree ∙ ap made c.in-Case.is in
    let f = fixed_case c.in-Case.kind (tree_of a c.in-Case.of) (arms_of a c.in-Case.other c.in-Case.arms) (subst IsFixed tree c.requires.fixed) in
    ap (λ (arms : List Arm). arms_are_constants (arms_of a c.in-Case.other arms)) c.as_slice-in-Case.ensures ∙ f.constants

pub run_part-taken_branch-taken-requires-clause-within : goal.run_part-taken_branch-taken-requires-clause-within
run_part-taken_branch-taken-requires-clause-within t c k inside =
    let a = c.args.shapes.now in
    let same : c.as_slice-in-Case.result.now ≡ c.as_slice.result.now = c.as_slice-in-Case.ensures ∙ sym c.as_slice.ensures in
    arm_within (tree_of a) (statement_of a) c.in-Case.other c.as_slice-in-Case.result.now c.own_context.result.width c.case_context-context.result.width k (omega (arith, c.case_context-context.ensures.width, ap (λ (arms : List Arm). arms_width (arms_of a c.in-Case.other arms) c.own_context.result.width) same)) inside

pub run_part-run_branch-requires-in-Case : goal.run_part-run_branch-requires-in-Case
run_part-run_branch-requires-in-Case t c =
    let a = c.args.shapes.now in
    let made = statement_of_node a (place_of_statement a c.args.s) in
    let tree = c.statement_node.ensures.tree ∙ ap made c.in-Case.is in
    let names = subst (HasStatementNames (length a.nodes) c.args.s) c.in-Case.is c.statement_node.ensures.names in
    let f = fixed_case c.in-Case.kind (tree_of a c.in-Case.of) (arms_of a c.in-Case.other c.in-Case.arms) (subst IsFixed tree c.requires.fixed) in
    let taken = taken_fixed a (length a.nodes) c.args.s c.in-Case.kind c.case_context-context.result.width c.case_context-context.result.signed c.value-subject.result c.in-Case.other c.in-Case.arms ((f.signals, f.no_calls), f.selects, f.fits) names.1 names.2 in
    let taken_is = c.taken_branch-taken.ensures ∙ ap (λ (arms : List Arm). taken_arm (tree_of a) c.in-Case.kind c.case_context-context.result.width c.case_context-context.result.signed c.value-subject.result c.in-Case.other arms) c.as_slice-in-Case.ensures in (
      omega arith,
      (
        subst (λ b. WritesBelow (length c.args.state.now) (branch (statement_of a) b)) (sym taken_is) (taken_below a (length c.args.state.now) c.in-Case.kind c.case_context-context.result.width c.case_context-context.result.signed c.value-subject.result c.in-Case.other c.in-Case.arms (subst (WritesBelow (length c.args.state.now)) tree c.requires.within)),
        (
          omega (arith, c.requires.there),
          subst (IsFixedBranch a c.args.s) (sym (c.taken_branch-taken.ensures ∙ ap (λ (arms : List Arm). taken_arm (tree_of a) c.in-Case.kind c.case_context-context.result.width c.case_context-context.result.signed c.value-subject.result c.in-Case.other arms) c.as_slice-in-Case.ensures)) taken,
        ),
      ),
    )

pub run_part-run_all-requires : goal.run_part-run_all-requires
run_part-run_all-requires t c =
    let a = c.args.shapes.now in
    let made = statement_of_node a (place_of_statement a c.args.s) in
    let tree = c.statement_node.ensures.tree ∙ ap made c.in-Seq.is in
    let names = subst (HasStatementNames (length a.nodes) c.args.s) c.in-Seq.is c.statement_node.ensures.names in
    (omega arith, (subst (λ (ps : List ℕ). WritesBelow (length c.args.state.now) (sequence (map (statement_of a) ps))) (sym c.as_slice-in-Seq.ensures) (subst (WritesBelow (length c.args.state.now)) tree c.requires.within), (omega (arith, c.requires.there), subst (λ (ps : List ℕ). EachIsFixed a c.args.s ps) (sym c.as_slice-in-Seq.ensures) (parts_fixed a c.args.s c.in-Seq.parts names (subst IsFixed tree c.requires.fixed)))))

pub run_part-returns-in-Empty : goal.run_part-returns-in-Empty
run_part-returns-in-Empty t c =
    let a = c.args.shapes.now in
    let made = statement_of_node a (place_of_statement a c.args.s) in
    let tree = c.statement_node.ensures.tree ∙ ap made c.in-Empty.is in
    sym (ap (λ st. given c.args.at_once st (state_of c.args.state.now)) tree ∙ given_nothing c.args.at_once (state_of c.args.state.now))

pub run_part-returns-then-blocking-at_once : goal.run_part-returns-then-blocking-at_once
run_part-returns-then-blocking-at_once t c =
    let a = c.args.shapes.now in
    let made = statement_of_node a (place_of_statement a c.args.s) in
    let tree = c.statement_node.ensures.tree ∙ ap made c.in-Assign.is in
    let s = state_of c.args.state.now in
    c.assign.ensures
    ∙ sym (ap (λ st. given c.args.at_once st s) tree ∙ given_assigned c.args.at_once (place_of_statement a c.args.s) (target_tree (tree_of a c.in-Assign.target)) (tree_of a c.in-Assign.expr) c.in-Assign.blocking s c.if-blocking-at_once.true)

pub run_part-returns-else-blocking-at_once : goal.run_part-returns-else-blocking-at_once
run_part-returns-else-blocking-at_once t c =
    let a = c.args.shapes.now in
    let made = statement_of_node a (place_of_statement a c.args.s) in
    let tree = c.statement_node.ensures.tree ∙ ap made c.in-Assign.is in
    let s = state_of c.args.state.now in
    sym (ap (λ st. given c.args.at_once st s) tree ∙ given_other c.args.at_once (place_of_statement a c.args.s) (target_tree (tree_of a c.in-Assign.target)) (tree_of a c.in-Assign.expr) c.in-Assign.blocking s c.if-blocking-at_once.false)

pub run_part-returns-in-Case : goal.run_part-returns-in-Case
run_part-returns-in-Case t c =
    let a = c.args.shapes.now in
    let made = statement_of_node a (place_of_statement a c.args.s) in
    let tree = c.statement_node.ensures.tree ∙ ap made c.in-Case.is in
    let s = state_of c.args.state.now in
    let other = c.in-Case.other in
    let subject = tree_of a c.in-Case.of in
    let plain = arms_of a other c.in-Case.arms in
    let kind = c.in-Case.kind in
    let w = c.case_context-context.result.width in
    let g = c.case_context-context.result.signed in
    let len : w ≡ case_width subject plain = c.case_context-context.ensures.width ∙ ap (λ (arms : List Arm). arms_width (arms_of a other arms) c.own_context.result.width) c.as_slice.ensures ∙ ap (arms_width plain) c.own_context.ensures.width in
    let sign : g ≡ case_sign subject plain = c.case_context-context.ensures.signed ∙ ap (λ (arms : List Arm). arms_sign (arms_of a other arms) c.own_context.result.signed) c.as_slice.ensures ∙ ap (arms_sign plain) c.own_context.ensures.signed in
    let taken = c.taken_branch-taken.ensures ∙ ap (λ (arms : List Arm). taken_arm (tree_of a) kind w g c.value-subject.result other arms) c.as_slice-in-Case.ensures in
    c.run_branch-in-Case.ensures
    ∙ ap (λ b. given c.args.at_once (branch (statement_of a) b) s) taken
    ∙ sym (given_arms a c.args.at_once kind w g c.value-subject.result other c.in-Case.arms s)
    ∙ ap (λ v. write_all s (part_of c.args.at_once (arms_body plain kind w g v unknown))) c.value-subject.ensures.value
    ∙ ap₂ (λ n h. write_all s (part_of c.args.at_once (arms_body plain kind n h (value subject n h unknown) unknown))) len sign
    ∙ sym (ap (λ st. given c.args.at_once st s) tree)

pub run_all-loop-part-preserved : goal.run_all-loop-part-preserved
run_all-loop-part-preserved t c =
    let st = statement_of c.args.shapes.now in
    let k = c.loop-part.part-index in
    let parts = c.args.parts.now in
    ap (given c.args.at_once (sequence (map st (drop (k + 1) parts)))) c.run_part.ensures
    ∙ sym (parts_step c.reads_law.ensures.body c.args.at_once st parts k (state_of c.loop-part.state) c.loop-part-test.true (λ j l. (c.requires.each j l).fixed))
    ∙ c.loop-part.invariant

pub run_all-returns : goal.run_all-returns
run_all-returns t c =
    let st = statement_of c.args.shapes.now in
    let s = state_of c.loop-part.state in
    sym (ap (λ (ps : List ℕ). given c.args.at_once (sequence (map st ps)) s) (drop_all c.loop-part.part-index c.args.parts.now c.loop-part-test.false) ∙ given_nothing c.args.at_once s) ∙ c.loop-part.invariant

pub run_branch-returns-in-None : goal.run_branch-returns-in-None
run_branch-returns-in-None t c = sym (ap (λ b. given c.args.at_once (branch (statement_of c.args.shapes.now) b) (state_of c.args.state.now)) c.in-None.is ∙ given_nothing c.args.at_once (state_of c.args.state.now))

pub run_all-run_part-requires : goal.run_all-run_part-requires
run_all-run_part-requires t c =
    let st = statement_of c.args.shapes.now in
    let k = c.loop-part.part-index in
    let each = c.requires.each k c.loop-part-test.true in
    let below = part_writes st (length c.args.state.now) c.args.parts.now k c.requires.within c.loop-part-test.true in
    let before = each.earlier in
    (omega (arith, before), (subst (λ n. WritesBelow n (st (get_or c.args.parts.now k 0))) (sym c.loop-part.auto.state) below, (omega (arith, before, c.requires.there), each.fixed)))
