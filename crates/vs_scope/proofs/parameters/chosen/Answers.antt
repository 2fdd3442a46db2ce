use Rattle.std.proofs.Common.{true, IfOk, length, sym, ap, ◌∙◌, subst}
use Rattle.vs_ast.specs.Views as view
use Rattle.vs_const.specs.Expressions.{constant}
use Rattle.vs_const.specs.Found.{Says}
use Rattle.vs_const.specs.Typed.{Typed}
use Rattle.vs_elaborated.specs.Environments.{Env, named}
use Rattle.vs_maps.specs.MapViews.{pairs}
use Rattle.vs_scope.proofs.Evaluations.{found_override, none_chosen, some_chosen}
use Rattle.vs_scope.proofs.parameters.chosen.Goals as goal

pub of-requires-clause-number : goal.of-requires-clause-number
of-requires-clause-number c = (found_override (length c.args.frames.now) c.args.name.now (pairs c.args.overrides.now) c.in-Some.o.now c.requires.overrides.each (sym c.in-Some.ensures.value)).1

pub constant-requires : goal.constant-requires
constant-requires c = (found_override (length c.args.frames.now) c.args.name.now (pairs c.args.overrides.now) c.in-Some.o.now c.requires.overrides.each (sym c.in-Some.ensures.value)).0

pub returns-in-None : goal.returns-in-None
returns-in-None c = λ p t local said. subst (λ (x : Typed). Says true c.args.default x) (sym (none_chosen c.args.frames.now c.args.name.now (pairs c.args.overrides.now) p t (sym c.in-None.ensures.value))) said

pub returns-in-Some : goal.returns-in-Some
returns-in-Some c = λ p t local said.
    let o = c.in-Some.o.now in
    let same = ap (λ (e : Env). constant (view.expr o.value.now) (named e)) c.of.ensures.is
    ∙ sym (some_chosen c.args.frames.now c.args.name.now (pairs c.args.overrides.now) p t o (local ∙ c.if-is_local.false) (sym c.in-Some.ensures.value)) in
    subst (λ (x : Typed). IfOk c.constant.result (λ r. Says true r x)) same c.constant.ensures
