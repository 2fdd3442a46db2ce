use Rattle.std.proofs.Common.{Option, ap, subst}
use Rattle.vs_const.specs.declared.names.FunctionShape.{FunctionShape}
use Rattle.vs_elaborated.specs.Environments.{declared_meaning}
use Rattle.vs_scope.specs.declared.names.Declared.TheVariants as states
use Rattle.vs_scope.specs.Seen.{StandsFor}
use Rattle.vs_scope.proofs.Meant.{function_means}
use Rattle.vs_scope.proofs.meanings.function_means.Goals as goal

pub returns-in-None : goal.returns-in-None
returns-in-None c = λ env place d s. ap (declared_meaning env place) (subst (λ (f : Option FunctionShape). StandsFor (states.Function f) d) c.in-None.is s)

pub returns-in-Some : goal.returns-in-Some
returns-in-Some c = λ env place d s. function_means env place c.in-Some.f d (subst (λ (f : Option FunctionShape). StandsFor (states.Function f) d) c.in-Some.is s)
