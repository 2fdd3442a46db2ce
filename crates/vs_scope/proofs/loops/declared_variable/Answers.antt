use Rattle.std.proofs.Common.{◌≡◌, Some, sym, ap, ◌∙◌, subst}
use Rattle.vs_elaborated.specs.Environments as environment
use Rattle.vs_elaborated.specs.Loops as spec
use Rattle.vs_const.specs.Faults.{least}
use Rattle.vs_scope.specs.declared.names.Declared.{Declared}
use Rattle.vs_scope.specs.Seen.{StandsFor}
use Rattle.vs_scope.proofs.LoopVariables.{genvar_variable, other_variable}
use Rattle.vs_scope.proofs.loops.declared_variable.Goals as goal

pub returns-in-Genvar : goal.returns-in-Genvar
returns-in-Genvar c = λ found name f.
    let stands : f.entry.declared ≡ environment.OfGenvar = subst (λ (d : Declared). StandsFor d f.entry.declared) c.in-Genvar.is f.declared_is in
    let is = ap (spec.variable_of c.args.place) f.found_is ∙ genvar_variable c.args.place f.entry stands in
    record { genvar = ap Some (sym f.place_is) ∙ sym (ap (λ (v : spec.Variable). v.genvar) is); fault = sym (ap (λ (v : spec.Variable). least v.faults) is) }

pub returns-in_default : goal.returns-in_default
returns-in_default c = λ found name f.
    let is = ap (spec.variable_of c.args.place) f.found_is ∙ other_variable c.args.place f.entry c.args.e.now.declared c.in_default.not-Genvar f.declared_is in
    record { genvar = sym (ap (λ (v : spec.Variable). v.genvar) is); fault = c.fault_at.ensures ∙ sym (ap (λ (v : spec.Variable). least v.faults) is) }
