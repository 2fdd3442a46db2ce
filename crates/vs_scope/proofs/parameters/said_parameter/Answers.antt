use Rattle.std.proofs.Common.{Bool, true, List, ℕ, refl, sym, ap, ◌∙◌, subst}
use Rattle.vs_ast.specs.Views as view
use Rattle.vs_const.specs.Faults.{least, better}
use Rattle.vs_const.specs.Found.{Says}
use Rattle.vs_const.specs.Expressions.{constant}
use Rattle.vs_const.proofs.Least.{least_append}
use Rattle.vs_elaborated.specs.Environments.{named}
use Rattle.vs_elaborated.specs.Parameters as spec
use Rattle.vs_scope.specs.Frames.{view_env}
use Rattle.vs_scope.specs.Overrides.{overrides_of, parameter_sort}
use Rattle.vs_scope.proofs.parameters.said_parameter.Goals as goal

pub returns : goal.returns
returns c =
    let here = c.args.here.now in
    let p = parameter_sort c.args.parameters.now c.args.default.now in
    let os = overrides_of here.around.frames.now c.args.overrides.now in
    let t = constant (view.expr c.args.default.now) (named (view_env here)) in
    let r = spec.said_type p.value_type (view_env here) in
    let says = subst (λ (n : List ℕ). Says true c.in_ok-c-2.c (spec.chosen p os n t)) c.as_slice.ensures (c.in_ok-c-2.ensures p t refl c.in_ok-c.ensures) in
    record {
      value = c.evaluated.ensures (spec.chosen p os (view.name c.args.name.now).bytes t) r says c.in_ok-range.ensures.is ∙ ap (λ (b : Bool). spec.parameter_declared b r (spec.chosen p os (view.name c.args.name.now).bytes t)) c.is_signed.ensures;
      fault = c.first_of-fault.ensures ∙ ap (λ x. better x c.in_ok-c.c.said.flaws.first) c.in_ok-range.ensures.is.fault ∙ ap (better (least r.faults)) (ap (λ x. x.first) c.in_ok-c.ensures.finds.checks.flaws) ∙ sym (least_append r.faults t.faults);
    }

pub evaluated-requires-clause-valued : goal.evaluated-requires-clause-valued
evaluated-requires-clause-valued c =
    let here = c.args.here.now in
    let p = parameter_sort c.args.parameters.now c.args.default.now in
    let t = constant (view.expr c.args.default.now) (named (view_env here)) in
    (c.in_ok-c-2.ensures p t refl c.in_ok-c.ensures).valued
