use Rattle.std.proofs.Common.{List, ℕ, [], ◌∷◌, sym, ap, ◌∙◌}
use Rattle.vs_ast.specs.Views as view
use Rattle.vs_const.specs.Faults.{least}
use Rattle.vs_elaborated.specs.Environments as environment
use Rattle.vs_elaborated.specs.Parameters as spec
use Rattle.vs_scope.specs.declared.names.Sort.{Sort}
use Rattle.vs_scope.specs.Views as scope
use Rattle.vs_scope.specs.Frames.{around_env}
use Rattle.vs_scope.specs.Overrides.{overrides_of, parameter_sort}
use Rattle.vs_scope.proofs.Completing.{complete_none, keeps_none}
use Rattle.vs_scope.proofs.Steps.{append_none}
use Rattle.vs_scope.proofs.parameters.evaluate_one.Goals as goal

pub returns-in_ok-put_value-in-Parameter-clause-entries : goal.returns-in_ok-put_value-in-Parameter-clause-entries
returns-in_ok-put_value-in-Parameter-clause-entries c =
    let d = c.args.d.now in
    let es = scope.entries c.args.names.now in
    let os = overrides_of c.args.around.frames.now c.args.overrides.now in
    let outer = around_env c.args.around in
    let p = parameter_sort c.in-Parameter.parameters.now c.in-Parameter.value.now in
    let none = complete_none outer c.args.names.now c.requires.incomplete.functions in
    c.in_ok-put_value-in-Parameter.ensures.entries ∙ ap (λ (n : List ℕ). spec.put_value n (scope.evaluated c.in_ok-s-in-Parameter.s.value) es) c.as_slice.ensures
    ∙ ap (λ (x : environment.Declared). spec.put_value d.name.now.text x es)
    (c.in_ok-s-in-Parameter.ensures.value ∙ ap (λ (xs : List environment.Entry). (spec.said_parameter (environment.up_to (environment.within outer xs) d.name.now.place) os (view.name d.name.now) p).declared) none)
    ∙ sym (ap (λ (x : Sort). (spec.said_parameters (around_env c.args.around) os (record { name = view.name d.name.now; sort = scope.sort x } ∷ []) es).entries) c.in-Parameter.is)

pub returns-in_ok-put_value-in-Parameter-clause-fault : goal.returns-in_ok-put_value-in-Parameter-clause-fault
returns-in_ok-put_value-in-Parameter-clause-fault c =
    let d = c.args.d.now in
    let es = scope.entries c.args.names.now in
    let os = overrides_of c.args.around.frames.now c.args.overrides.now in
    let outer = around_env c.args.around in
    let p = parameter_sort c.in-Parameter.parameters.now c.in-Parameter.value.now in
    let none = complete_none outer c.args.names.now c.requires.incomplete.functions in
    c.in_ok-s-in-Parameter.ensures.fault
    ∙ ap (λ (xs : List environment.Entry). least (spec.said_parameter (environment.up_to (environment.within outer xs) d.name.now.place) os (view.name d.name.now) p).faults) none
    ∙ ap least (sym (append_none _))
    ∙ sym (ap (λ (x : Sort). least (spec.said_parameters (around_env c.args.around) os (record { name = view.name d.name.now; sort = scope.sort x } ∷ []) es).faults) c.in-Parameter.is)

pub invariant_of-here : goal.invariant_of-here
invariant_of-here c = record { kept = keeps_none (around_env c.args.around) c.args.names.now c.requires.incomplete }
