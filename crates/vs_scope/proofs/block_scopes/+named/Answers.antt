use Rattle.std.proofs.Common.{◌≡◌, ◌++◌, ℕ, List, Option, OnOk, map, length, refl, sym, ap, ◌∙◌, subst}
use Rattle.vs_ast.specs.Views as view
use Rattle.vs_ast.specs.declared.statements.Statement.{Statement}
use Rattle.vs_elaborated.specs.NamedBlocks as spec
use Rattle.vs_scope.specs.NamedBlocks.{named}
use Rattle.vs_scope.proofs.NamedSignals.{then_named}
use Rattle.vs_scope.proofs.NamedSteps.{if_names, else_names, case_names, default_names, sequence_names, sequence_step, sequence_end, arms_step, arms_end}
use Rattle.vs_scope.proofs.block_scopes.+named.Goals as goal

pub push_named-returns-in-None : goal.push_named-returns-in-None
push_named-returns-in-None t c =
    let w = c.in-If in
    let old = c.args.list.now.items in
    c.in_ok-push_named-in-If.ensures ∙ ap (λ (x : List spec.NamedBlock). map named old ++ x) (if_names c.args.s.now w.place w.condition w.taken w.other c.args.outer (length old) c.deref.result.now w.is c.in-None.is c.deref.ensures)

pub push_named-returns-in-Some : goal.push_named-returns-in-Some
push_named-returns-in-Some t c =
    let w = c.in-If in
    let old = c.args.list.now.items in
    let outer = c.args.outer in
    let first = spec.blocks_in (view.statement c.deref.result.now) outer (length old) in
    let whole = map named old ++ spec.blocks_in (view.statement c.args.s.now) outer (length old) in
    let all = ap (λ (x : List spec.NamedBlock). map named old ++ x) (else_names c.args.s.now w.place w.condition w.taken c.in-Some.other w.other outer (length old) c.deref.result.now c.deref-in-Some.result.now w.is c.in-Some.is c.deref.ensures c.deref-in-Some.ensures) in
    subst (λ (x : List spec.NamedBlock). OnOk c.push_named-in-Some.result (map named c.push_named-in-Some.new.list.items ≡ x))
    (then_named old c.push_named.new.list.items first whole (λ (n : ℕ). spec.blocks_in (view.statement c.deref-in-Some.result.now) outer n) c.in_ok-push_named-in-If.ensures all) c.push_named-in-Some.ensures

pub push_named-returns-in-None-other : goal.push_named-returns-in-None-other
push_named-returns-in-None-other t c =
    let w = c.in-Case in
    let old = c.args.list.now.items in
    c.in_ok-push_arms-in-Case.ensures
    ∙ ap (λ (x : List spec.NamedBlock). map named old ++ x) (case_names c.args.s.now w.place w.kind w.subject w.arms w.other c.args.outer (length old) c.deref-in-Case.result.now w.is c.in-None-other.is c.deref-in-Case.ensures.value)

pub push_named-returns-in-Some-other : goal.push_named-returns-in-Some-other
push_named-returns-in-Some-other t c =
    let w = c.in-Case in
    let old = c.args.list.now.items in
    let outer = c.args.outer in
    let first = spec.blocks_in_arms (view.arms c.deref-in-Case.result.now) outer (length old) in
    let whole = map named old ++ spec.blocks_in (view.statement c.args.s.now) outer (length old) in
    let all = ap (λ (x : List spec.NamedBlock). map named old ++ x)
    (default_names c.args.s.now w.place w.kind w.subject w.arms c.in-Some-other.other w.other outer (length old) c.deref-in-Case.result.now c.deref-in-Some-other.result.now w.is c.in-Some-other.is c.deref-in-Case.ensures.value c.deref-in-Some-other.ensures) in
    subst (λ (x : List spec.NamedBlock). OnOk c.push_named-in-Some-other.result (map named c.push_named-in-Some-other.new.list.items ≡ x))
    (then_named old c.push_arms.new.list.items first whole (λ (n : ℕ). spec.blocks_in (view.statement c.deref-in-Some-other.result.now) outer n) c.in_ok-push_arms-in-Case.ensures all) c.push_named-in-Some-other.ensures

pub push_named-returns-in_ok-within-in-Sequence : goal.push_named-returns-in_ok-within-in-Sequence
push_named-returns-in_ok-within-in-Sequence t c =
    let w = c.in-Sequence in
    let old = c.args.list.now.items in
    let outer = c.args.outer in
    let parts = c.deref-in-Sequence.result.now in
    let here = spec.block_here (view.option view.block_scope w.scope) (view.statements parts) outer in
    let rest = λ (n : ℕ). spec.blocks_in_sequence (view.statements parts) (spec.outer_within here outer (length old)) n in
    let whole = map named old ++ spec.blocks_in (view.statement c.args.s.now) outer (length old) in
    let all = ap (λ (x : List spec.NamedBlock). map named old ++ x) (sequence_names c.args.s.now w.place w.scope w.parts outer (length old) parts w.is c.deref-in-Sequence.ensures.value) in
    let middle = c.push_scope.new.list.items in
    subst (λ (x : List spec.NamedBlock). OnOk c.push_sequence.result (map named c.push_sequence.new.list.items ≡ x)) (then_named old middle here whole rest c.in_ok-within-in-Sequence.ensures.pushed all)
    (subst (λ (xs : List Statement). OnOk c.push_sequence.result (map named c.push_sequence.new.list.items ≡ map named middle ++ spec.blocks_in_sequence (view.statements xs) (spec.outer_within here outer (length old)) (length middle)))
    (c.deref-in-Sequence-2.ensures.value ∙ sym c.deref-in-Sequence.ensures.value)
    (subst (λ (o : Option ℕ). OnOk c.push_sequence.result (map named c.push_sequence.new.list.items ≡ map named middle ++ spec.blocks_in_sequence (view.statements c.deref-in-Sequence-2.result.now) o (length middle)))
    c.in_ok-within-in-Sequence.ensures.within c.push_sequence.ensures))

pub push_sequence-loop-s-init : goal.push_sequence-loop-s-init
push_sequence-loop-s-init t c = refl

pub push_sequence-loop-s-preserved : goal.push_sequence-loop-s-preserved
push_sequence-loop-s-preserved t c =
    let outer = c.args.outer in
    let whole = map named c.args.list.now.items ++ spec.blocks_in_sequence (view.statements c.args.parts.now) outer (length c.args.list.now.items) in
    sequence_step outer c.args.parts.now c.loop-s.s-index c.s-item.result c.loop-s.list.items c.push_named.new.list.items whole c.loop-s-test.true c.s-item.is c.in_ok-push_named.ensures c.loop-s.invariant

pub push_sequence-returns : goal.push_sequence-returns
push_sequence-returns t c =
    let outer = c.args.outer in
    let whole = map named c.args.list.now.items ++ spec.blocks_in_sequence (view.statements c.args.parts.now) outer (length c.args.list.now.items) in
    sequence_end outer c.args.parts.now c.loop-s.s-index c.loop-s.list.items whole c.loop-s-test.false c.loop-s.invariant

pub push_arms-loop-arm-init : goal.push_arms-loop-arm-init
push_arms-loop-arm-init t c = refl

pub push_arms-loop-arm-preserved : goal.push_arms-loop-arm-preserved
push_arms-loop-arm-preserved t c =
    let outer = c.args.outer in
    let whole = map named c.args.list.now.items ++ spec.blocks_in_arms (view.arms c.args.arms.now) outer (length c.args.list.now.items) in
    arms_step outer c.args.arms.now c.loop-arm.arm-index c.arm-item.result c.loop-arm.list.items c.push_named.new.list.items whole c.loop-arm-test.true c.arm-item.is c.in_ok-push_named.ensures c.loop-arm.invariant

pub push_arms-returns : goal.push_arms-returns
push_arms-returns t c =
    let outer = c.args.outer in
    let whole = map named c.args.list.now.items ++ spec.blocks_in_arms (view.arms c.args.arms.now) outer (length c.args.list.now.items) in
    arms_end outer c.args.arms.now c.loop-arm.arm-index c.loop-arm.list.items whole c.loop-arm-test.false c.loop-arm.invariant
