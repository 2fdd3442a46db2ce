use Rattle.std.proofs.Common.{sym, ap, ◌∙◌, subst}
use Rattle.vs_const.specs.Meanings.{Barred, Means}
use Rattle.vs_const.specs.declared.rules.Rule.{Rule}
use Rattle.vs_elaborated.specs.Environments.{OfSignal, OfGenvar, declared_meaning, turn_meaning}
use Rattle.vs_scope.specs.declared.names.Declared.TheVariants as states
use Rattle.vs_scope.specs.Frames.{view_env}
use Rattle.vs_scope.specs.Views.{evaluated, signal_meaning, unknown_signal}
use Rattle.vs_scope.proofs.Meant.{stands_at, means_as}
use Rattle.vs_scope.proofs.places.View.meaning.Goals as goal

pub returns-in-Later : goal.returns-in-Later
returns-in-Later c = λ d h.
    let e = c.args.e.now in
    ap (declared_meaning (view_env c.args.self.now) e.first.name.now.place) (stands_at e.declared states.Later d c.in-Later.is h)

pub returns-in-Announced : goal.returns-in-Announced
returns-in-Announced c = λ d h.
    let e = c.args.e.now in
    means_as c.no_signal.result (view_env c.args.self.now) e.first.name.now.place d (OfSignal unknown_signal) (stands_at e.declared states.Announced d c.in-Announced.is h) c.no_signal.ensures

pub returns-in-Signal : goal.returns-in-Signal
returns-in-Signal c = λ d h.
    let e = c.args.e.now in
    let s = c.in-Signal.s in
    means_as c.signal_means.result (view_env c.args.self.now) e.first.name.now.place d (OfSignal (signal_meaning s)) (stands_at e.declared (states.Signal s) d c.in-Signal.is h) c.signal_means.ensures

pub returns-in-Parameter : goal.returns-in-Parameter
returns-in-Parameter c = λ d h.
    let e = c.args.e.now in
    let v = c.in-Parameter.value in
    means_as c.parameter.result (view_env c.args.self.now) e.first.name.now.place d (evaluated v) (stands_at e.declared (states.Parameter v) d c.in-Parameter.is h) c.parameter.ensures

pub returns-in-Function : goal.returns-in-Function
returns-in-Function c = λ d h.
    let e = c.args.e.now in
    let f = c.in-Function.f in
    c.function_means.ensures (view_env c.args.self.now) e.first.name.now.place d (stands_at e.declared (states.Function f) d c.in-Function.is h)

pub returns-in-Genvar : goal.returns-in-Genvar
returns-in-Genvar c = λ d h.
    let e = c.args.e.now in
    let v = view_env c.args.self.now in
    means_as c.genvar_meaning.result v e.first.name.now.place d OfGenvar (stands_at e.declared states.Genvar d c.in-Genvar.is h)
    (subst (λ o. Means c.genvar_meaning.result (turn_meaning o)) c.turn.ensures c.genvar_meaning.ensures)

pub returns-in-Integer : goal.returns-in-Integer
returns-in-Integer c = λ d h.
    let e = c.args.e.now in
    let scope = c.in-Integer.scope in
    ap (declared_meaning (view_env c.args.self.now) e.first.name.now.place) (stands_at e.declared (states.Integer scope) d c.in-Integer.is h)
    ∙ ap (λ (r : Rule). Barred r) (sym (c.integer_rule.ensures scope))

pub returns-in-Scope : goal.returns-in-Scope
returns-in-Scope c = λ d h.
    let e = c.args.e.now in
    ap (declared_meaning (view_env c.args.self.now) e.first.name.now.place) (stands_at e.declared states.Scope d c.in-Scope.is h)
