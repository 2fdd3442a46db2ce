use Rattle.std.proofs.Common.{◌≡◌, ◌++◌, List, OnOk, map, sym, ap, ◌∙◌, subst}
use Rattle.vs_ast.specs.declared.statements.Statement.{Statement}
use Rattle.vs_ast.specs.Views as view
use Rattle.vs_elaborated.specs.Statements as statements
use Rattle.vs_elaborated.specs.Functions as spec
use Rattle.vs_elaborated.specs.Uses.{is_variable_among}
use Rattle.vs_scope.specs.Locals.{local}
use Rattle.vs_scope.proofs.LocalBlocks.{both_behind, case_declares, default_declares, sequence_declares}
use Rattle.vs_scope.proofs.locals.+blocks.Goals as goal

pub push_blocks-returns-in-None-other : goal.push_blocks-returns-in-None-other
push_blocks-returns-in-None-other t c =
    let w = c.in-Case in
    c.in_ok-push_arms-in-Case.ensures
    ∙ ap (λ (x : List statements.Local). map local c.args.list.now.items ++ x) (case_declares c.args.s.now w.place w.kind w.subject w.arms w.other c.deref-in-Case.result.now w.is c.in-None-other.is c.deref-in-Case.ensures.value)

pub push_blocks-returns-in-Some-other : goal.push_blocks-returns-in-Some-other
push_blocks-returns-in-Some-other t c =
    let w = c.in-Case in
    let first = spec.arms_locals (view.arms c.deref-in-Case.result.now) in
    let second = spec.block_locals (view.statement c.deref-in-Some-other.result.now) in
    subst (λ (x : List statements.Local). OnOk c.push_blocks-in-Some-other.result (map local c.push_blocks-in-Some-other.new.list.items ≡ x))
    (both_behind (map local c.args.list.now.items) (map local c.push_arms.new.list.items) first second (spec.block_locals (view.statement c.args.s.now)) c.in_ok-push_arms-in-Case.ensures
    (default_declares c.args.s.now w.place w.kind w.subject w.arms c.in-Some-other.other w.other c.deref-in-Case.result.now c.deref-in-Some-other.result.now w.is c.in-Some-other.is c.deref-in-Case.ensures.value c.deref-in-Some-other.ensures))
    c.push_blocks-in-Some-other.ensures

pub push_blocks-returns-in_ok-push_scope-in-Sequence : goal.push_blocks-returns-in_ok-push_scope-in-Sequence
push_blocks-returns-in_ok-push_scope-in-Sequence t c =
    let w = c.in-Sequence in
    let first = spec.variables_of (is_variable_among (view.statements c.deref-in-Sequence.result.now)) (statements.scope_locals (view.option view.block_scope w.scope)) in
    let second = spec.sequence_locals (view.statements c.deref-in-Sequence.result.now) in
    subst (λ (x : List statements.Local). OnOk c.push_sequence.result (map local c.push_sequence.new.list.items ≡ x))
    (both_behind (map local c.args.list.now.items) (map local c.push_scope.new.list.items) first second (spec.block_locals (view.statement c.args.s.now)) c.in_ok-push_scope-in-Sequence.ensures
    (sequence_declares c.args.s.now w.place w.scope w.parts c.deref-in-Sequence.result.now w.is c.deref-in-Sequence.ensures.value))
    (subst (λ (xs : List Statement). OnOk c.push_sequence.result (map local c.push_sequence.new.list.items ≡ map local c.push_scope.new.list.items ++ spec.sequence_locals (view.statements xs)))
    (c.deref-in-Sequence-2.ensures.value ∙ sym c.deref-in-Sequence.ensures.value) c.push_sequence.ensures)
