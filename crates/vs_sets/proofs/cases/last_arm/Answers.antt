use Rattle.std.proofs.Common.{◌≡◌, ◌+◌, Bool, true, List, ℕ, Option, Some, None, length, map, drop, if◌then◌else◌, sym, ap, ap₂, ◌∙◌, subst, arith}
use Rattle.std.proofs.lemmas.List.{drop_all}
use Rattle.std.specs.List.{list_any}
use Rattle.vs_design.specs.Expressions as E
use Rattle.vs_design.specs.Fits.{fit_items}
use Rattle.vs_design.specs.LiftedBodies.{item_sets}
use Rattle.vs_design.specs.Selects.{items_constant}
use Rattle.vs_design.specs.Sets.{Set4}
use Rattle.vs_design.specs.Statements.{arms_width, arms_sign, case_width, case_sign}
use Rattle.vs_design.specs.Within.{items_within}
use Rattle.vs_flat.specs.declared.statements.Arm.{Arm}
use Rattle.vs_flat.specs.Arena.{Arena}
use Rattle.vs_sets.specs.Completing.{last_possible}
use Rattle.vs_sets.specs.Matches.{are_within}
use Rattle.vs_sets.specs.Nodes.{EachBelow, tree_of}
use Rattle.vs_sets.specs.StatementParts.{arms_of, statement_of}
use Rattle.vs_sets.specs.Tables.{family_of}
use Rattle.vs_sets.proofs.CaseSteps.{arm_fit, arm_items_within, arm_within, arms_grow, get_is, items_at-is}
use Rattle.vs_sets.proofs.LastArm.{arm_items_constant, next_possible, possible_is}
use Rattle.vs_sets.proofs.cases.last_arm.Goals as goal

pub lifted-requires-clause-wide : goal.lifted-requires-clause-wide
lifted-requires-clause-wide c =
    let a = c.args.shapes.now in
    omega (arith, c.own_context.ensures.width, c.case_context-context.ensures.width, arms_grow (arms_of a c.args.other c.args.arms.now) c.own_context.result.width)

pub match_items-requires-clause-nodes : goal.match_items-requires-clause-nodes
match_items-requires-clause-nodes c = omega (arith, c.expr_count-nodes.ensures, ap (λ (x : Arena). length x.nodes) c.flat.ensures.same)

pub match_items-requires-clause-there : goal.match_items-requires-clause-there
match_items-requires-clause-there c =
    let x = c.arm-item.result in
    let k = c.loop-arm.arm-index in
    let there = c.requires.there k x (get_is c.args.arms.now k x c.loop-arm-test.true c.arm-item.is) in
    let nodes : c.expr_count-nodes.result ≡ length c.args.shapes.now.nodes = omega (arith, c.expr_count-nodes.ensures, ap (λ (y : Arena). length y.nodes) c.flat.ensures.same) in
    subst (λ (n : ℕ). EachBelow n c.as_slice.result.now) (sym nodes) (subst (EachBelow (length c.args.shapes.now.nodes)) (sym c.as_slice.ensures) there.0)

pub match_items-requires-clause-names : goal.match_items-requires-clause-names
match_items-requires-clause-names c =
    let a = c.args.shapes.now in
    let x = c.arm-item.result in
    let k = c.loop-arm.arm-index in
    let count = length c.args.known.now in
    ap (λ ns. items_within count (E.items_of (map (tree_of a) ns))) (c.as_slice.ensures ∙ ap (λ y. y.items) c.arm-item.is) ∙ arm_items_within count (tree_of a) (statement_of a) c.args.other c.args.arms.now k x c.requires.names c.loop-arm-test.true

pub match_items-requires-clause-fit : goal.match_items-requires-clause-fit
match_items-requires-clause-fit c =
    let a = c.args.shapes.now in
    let x = c.arm-item.result in
    ap (λ ns. fit_items (E.items_of (map (tree_of a) ns))) (c.as_slice.ensures ∙ ap (λ y. y.items) c.arm-item.is) ∙ arm_fit (tree_of a) (statement_of a) c.args.other c.args.arms.now c.loop-arm.arm-index x c.requires.fit c.loop-arm-test.true

pub match_items-requires-clause-within : goal.match_items-requires-clause-within
match_items-requires-clause-within c =
    let a = c.args.shapes.now in
    let k = c.loop-arm.arm-index in
    ap (λ ns. are_within c.case_context-context.result.width (map (tree_of a) ns)) (c.as_slice.ensures ∙ ap (λ y. y.items) c.arm-item.is ∙ sym (items_at-is c.args.arms.now k c.arm-item.result c.loop-arm-test.true))
    ∙ arm_within (tree_of a) (statement_of a) c.args.other c.args.arms.now c.own_context.result.width c.case_context-context.result.width k (omega (arith, c.case_context-context.ensures.width)) c.loop-arm-test.true

pub match_items-requires-clause-many : goal.match_items-requires-clause-many
match_items-requires-clause-many c = c.in_ok-subject.ensures.length

pub loop-arm-preserved : goal.loop-arm-preserved
loop-arm-preserved c =
    let a = c.args.shapes.now in
    let tree = tree_of a in
    let arms = c.args.arms.now in
    let k = c.loop-arm.arm-index in
    let arm = c.arm-item.result in
    let kind = c.args.kind in
    let w = c.case_context-context.result.width in
    let g = c.case_context-context.result.signed in
    let subject = tree c.args.of in
    let f = family_of c.args.known.now in
    let constant : items_constant (E.items_of (map tree arm.items)) ≡ true = ap (λ (x : Arm). items_constant (E.items_of (map tree x.items))) c.arm-item.is ∙ arm_items_constant tree (statement_of a) c.args.other arms k arm c.requires.constant c.loop-arm-test.true in
    let may = c.in_ok-found.ensures.may ∙ ap (λ (ns : List ℕ). list_any (λ (m : Set4). m.one?) (item_sets kind w g c.in_ok-subject.subject (E.items_of (map tree ns)) f)) c.as_slice.ensures
    ∙ possible_is kind w g subject (E.items_of (map tree arm.items)) c.in_ok-subject.subject f (λ b r. c.requires.known b (c.requires.reads b r)) constant c.in_ok-subject.ensures.value in
    ap (λ (o : Option ℕ). last_possible tree kind w g subject o (drop (k + 1) arms)) (c.with_arm-last.ensures ∙ ap (λ (m : Bool). if m then Some arm.statement else c.loop-arm.last) may)
    ∙ sym (next_possible tree kind w g subject c.loop-arm.last arms k arm c.loop-arm-test.true c.arm-item.is) ∙ c.loop-arm.invariant

pub returns : goal.returns
returns c =
    let a = c.args.shapes.now in
    let tree = tree_of a in
    let arms = c.args.arms.now in
    let all = arms_of a c.args.other arms in
    let subject = tree c.args.of in
    let len : c.case_context-context.result.width ≡ case_width subject all = c.case_context-context.ensures.width ∙ ap (arms_width all) c.own_context.ensures.width in
    let sign : c.case_context-context.result.signed ≡ case_sign subject all = c.case_context-context.ensures.signed ∙ ap (arms_sign all) c.own_context.ensures.signed in
    sym (ap (last_possible tree c.args.kind c.case_context-context.result.width c.case_context-context.result.signed subject c.loop-arm.last) (drop_all c.loop-arm.arm-index arms c.loop-arm-test.false))
    ∙ c.loop-arm.invariant ∙ ap₂ (λ (w : ℕ) (g : Bool). last_possible tree c.args.kind w g subject None arms) len sign
