use Rattle.std.proofs.Common.{◌≡◌, map, Some, refl, sym, ap, ◌∙◌, subst}
use Rattle.vs_ast.specs.Views as view
use Rattle.vs_const.specs.declared.names.FunctionShape.{FunctionShape}
use Rattle.vs_const.specs.MentionViews.{kept as kept_read}
use Rattle.vs_maps.specs.MapViews.{pairs}
use Rattle.vs_scope.specs.Complete.{complete, completed, reads_at}
use Rattle.vs_scope.specs.Seen.{HasShape}
use Rattle.vs_scope.proofs.Completing.{names_completed}
use Rattle.vs_scope.proofs.FunctionsAgain.{means_next, shape_kept_of, reads_kept_of, put_other, part_more}
use Rattle.vs_scope.proofs.Saying.{said_next}
use Rattle.vs_scope.proofs.names.Names.with_function.Goals as goal

pub returns-in_ok-put_function : goal.returns-in_ok-put_function
returns-in_ok-put_function c = λ outer rest kw h.
    let old = c.args.self.now in
    let whole = c.args.whole.now in
    let f = c.args.f in
    let g = (said_next outer old (completed outer old).counts f).meaning in
    let name = (view.function f.now).name.bytes in
    let is_called = means_next outer old whole f rest h (sym c.awaits.ensures ∙ c.if-awaits.true) in
    let kept = shape_kept_of outer whole name g kw is_called in
    let both : Some kept.0 ≡ Some c.in-Some.shape = sym kept.1 ∙ sym c.shape_of.ensures ∙ c.in-Some.is in
    let is : kept.0 ≡ c.in-Some.shape = cc in
    let p = c.in_ok-put_function.ensures in
    part_more outer old c.put_function.new.self whole f rest h p.called
    (p.shapes (complete outer old) g (names_completed outer old) h.kept (subst (λ (s : FunctionShape). HasShape s g) is kept.2)
    (ap (map kept_read) c.in_ok-reads.ensures ∙ reads_kept_of outer whole name g kw is_called))

pub returns-in_default : goal.returns-in_default
returns-in_default c = λ outer rest kw h.
    let old = c.args.self.now in
    let whole = c.args.whole.now in
    let f = c.args.f in
    let g = (said_next outer old (completed outer old).counts f).meaning in
    let kept = shape_kept_of outer whole (view.function f.now).name.bytes g kw (means_next outer old whole f rest h (sym c.awaits.ensures ∙ c.if-awaits.true)) in
    absurd (c.in_default.not-Some kept.0 (c.shape_of.ensures ∙ kept.1))

pub returns-in_ok-push : goal.returns-in_ok-push
returns-in_ok-push c = λ outer rest kw h.
    let old = c.args.self.now in
    let f = c.args.f in
    let g = (said_next outer old (completed outer old).counts f).meaning in
    part_more outer old (record c.args.self.now { functions = c.push.new.self }) c.args.whole.now f rest h (record { entries_are = refl; functions = c.in_ok-push.ensures.items; scope = refl; counts = refl; plain = refl })
    (put_other (reads_at (pairs old.reads)) (view.function f.now).name.bytes g (pairs old.map) (complete outer old) c.are_distinct.ensures (names_completed outer old) h.kept (sym c.awaits.ensures ∙ c.if-awaits.false))
