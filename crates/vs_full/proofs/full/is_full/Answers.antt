use Rattle.std.proofs.Common.{◌≡◌, ◌≤◌, List, length, sym, ap, ◌∙◌, subst, arith}
use Rattle.vs_design.specs.Covers.{Pattern}
use Rattle.vs_design.specs.Statements.{arms_width, arms_sign, case_width, case_sign}
use Rattle.vs_flat.specs.DesignOf.{design_of}
use Rattle.vs_sets.specs.StatementParts.{arms_of, statement_of}
use Rattle.vs_sets.proofs.CaseSteps.{arm_within, arms_grow}
use Rattle.vs_shape.specs.Nodes.{tree_of}
use Rattle.vs_full.specs.Searched.{AreLong}
use Rattle.vs_full.proofs.Forming.{form_constant, form_few, is_covered, is_signed, not_formed, patterns_short}
use Rattle.vs_full.proofs.full.is_full.Goals as goal

pub patterns_of-requires-clause-constant : goal.patterns_of-requires-clause-constant
patterns_of-requires-clause-constant c =
    let a = c.args.shapes.now in
    form_constant (design_of a) (tree_of a c.args.of) (tree_of a) (statement_of a) c.args.other c.args.arms.now (sym c.in_ok-may.ensures ∙ c.if-not-may.false)

pub patterns_of-requires-clause-within : goal.patterns_of-requires-clause-within
patterns_of-requires-clause-within c k inside =
    let a = c.args.shapes.now in
    arm_within (tree_of a) (statement_of a) c.args.other c.args.arms.now c.own_context-own.result.width c.case_context-context.result.width k (omega (arith, c.case_context-context.ensures.width)) inside

pub patterns_of-requires-clause-short : goal.patterns_of-requires-clause-short
patterns_of-requires-clause-short c =
    let a = c.args.shapes.now in
    omega (arith, c.case_context-context.ensures.width, arms_grow (arms_of a c.args.other c.args.arms.now) c.own_context-own.result.width)

pub covers-requires-clause-bits : goal.covers-requires-clause-bits
covers-requires-clause-bits c = omega (arith, c.own_context-own.ensures.few.1)

pub covers-requires-clause-many : goal.covers-requires-clause-many
covers-requires-clause-many c =
    let a = c.args.shapes.now in
    let arms = arms_of a c.args.other c.args.arms.now in
    let wide : c.own_context-own.result.width ≤ c.case_context-context.result.width = omega (arith, c.case_context-context.ensures.width, arms_grow arms c.own_context-own.result.width) in
    let short = patterns_short c.value_law.ensures.length c.args.kind c.own_context-own.result.width c.case_context-context.result.width c.case_context-context.result.signed arms c.own_context-own.result.width c.in_ok-patterns.patterns.items wide
    (omega (arith, c.case_context-context.ensures.width)) c.in_ok-patterns.ensures in
    let most = form_few (design_of a) (tree_of a c.args.of) (tree_of a) (statement_of a) c.args.other c.args.arms.now (sym c.in_ok-may.ensures ∙ c.if-not-may.false) in
    omega (arith, short.few, most, ap (λ (ps : List Pattern). length ps) c.as_slice.ensures.value)

pub covers-requires-clause-long : goal.covers-requires-clause-long
covers-requires-clause-long c =
    let a = c.args.shapes.now in
    let arms = arms_of a c.args.other c.args.arms.now in
    let wide : c.own_context-own.result.width ≤ c.case_context-context.result.width = omega (arith, c.case_context-context.ensures.width, arms_grow arms c.own_context-own.result.width) in
    let short = patterns_short c.value_law.ensures.length c.args.kind c.own_context-own.result.width c.case_context-context.result.width c.case_context-context.result.signed arms c.own_context-own.result.width c.in_ok-patterns.patterns.items wide
    (omega (arith, c.case_context-context.ensures.width)) c.in_ok-patterns.ensures in
    subst (λ (ps : List Pattern). AreLong c.own_context-own.result.width ps) (sym c.as_slice.ensures.value) short.long

pub returns-then-not-may : goal.returns-then-not-may
returns-then-not-may c =
    let a = c.args.shapes.now in
    not_formed (design_of a) c.args.kind (tree_of a c.args.of) (arms_of a c.args.other c.args.arms.now) c.in_ok-may.may c.in_ok-may.ensures c.if-not-may.true

pub returns-then-is_extended : goal.returns-then-is_extended
returns-then-is_extended c =
    let a = c.args.shapes.now in
    let arms = arms_of a c.args.other c.args.arms.now in
    let len : c.case_context-context.result.width ≡ case_width (tree_of a c.args.of) arms = c.case_context-context.ensures.width ∙ ap (arms_width arms) c.own_context-own.ensures.width in
    let signed : c.case_context-context.result.signed ≡ case_sign (tree_of a c.args.of) arms = c.case_context-context.ensures.signed ∙ ap (arms_sign arms) c.own_context-own.ensures.signed in
    is_signed (design_of a) c.args.kind (tree_of a c.args.of) arms c.own_context-own.result.width c.case_context-context.result.width c.case_context-context.result.signed c.is_extended.result c.own_context-own.ensures.width len signed c.is_extended.ensures c.if-is_extended.true

pub returns : goal.returns
returns c =
    let a = c.args.shapes.now in
    let arms = arms_of a c.args.other c.args.arms.now in
    let len : c.case_context-context.result.width ≡ case_width (tree_of a c.args.of) arms = c.case_context-context.ensures.width ∙ ap (arms_width arms) c.own_context-own.ensures.width in
    let signed : c.case_context-context.result.signed ≡ case_sign (tree_of a c.args.of) arms = c.case_context-context.ensures.signed ∙ ap (arms_sign arms) c.own_context-own.ensures.signed in
    is_covered (design_of a) c.args.kind (tree_of a c.args.of) arms c.own_context-own.result.width c.case_context-context.result.width c.case_context-context.result.signed c.in_ok-may.may c.is_extended.result c.in_ok-full.full c.as_slice.result.now c.in_ok-patterns.patterns.items
    c.own_context-own.ensures.width len signed c.in_ok-may.ensures c.if-not-may.false c.is_extended.ensures c.if-is_extended.false c.as_slice.ensures.value c.in_ok-patterns.ensures c.in_ok-full.ensures
