-- The variable of a generate loop, by its declaration.
use Rattle.std.proofs.Common.{◌≡◌, ℕ, [], Some, None, refl, ap}
use Rattle.vs_const.specs.Faults.{fault}
use Rattle.vs_const.specs.declared.rules.Rule.TheVariants.{WrongKind}
use Rattle.vs_elaborated.specs.Environments.{Declared, OfGenvar, Entry}
use Rattle.vs_elaborated.specs.Loops as spec
use Rattle.vs_scope.specs.declared.names.Declared.{Declared as DeclaredOf}
use Rattle.vs_scope.specs.declared.names.Declared.TheVariants as states
use Rattle.vs_scope.specs.declared.names.Evaluated.TheVariants.{Value, Undefined}
use Rattle.vs_scope.specs.Seen.{StandsFor}

-- by what is declared alone
by_declared : (place : ℕ) (e : Entry) (d : Declared) → e.declared ≡ d → spec.variable_of place (Some e) ≡ spec.variable_of place (Some (record e { declared = d }))
by_declared place e d h = ap (λ (x : Declared). spec.variable_of place (Some (record e { declared = x }))) h

pub genvar_variable : (place : ℕ) (e : Entry) → e.declared ≡ OfGenvar → spec.variable_of place (Some e) ≡ record { genvar = Some e.place; faults = [] }
genvar_variable place e h = by_declared place e OfGenvar h

pub other_variable : (place : ℕ) (e : Entry) (c : DeclaredOf) → (c ≡ states.Genvar → ⊥) → StandsFor c e.declared → spec.variable_of place (Some e) ≡ record { genvar = None; faults = fault WrongKind place }
other_variable place e states.Later other h = by_declared place e _ h
other_variable place e states.Announced other h = by_declared place e _ h
other_variable place e (states.Signal s) other h = by_declared place e _ h
other_variable place e (states.Parameter (Value p)) other h = by_declared place e _ h
other_variable place e (states.Parameter (Undefined r)) other h = by_declared place e _ h
other_variable place e (states.Function None) other h = by_declared place e _ h
other_variable place e (states.Function (Some f)) other h = by_declared place e _ h.1
other_variable place e states.Genvar other h = absurd (other refl)
other_variable place e (states.Integer scope) other h = by_declared place e _ h
other_variable place e states.Scope other h = by_declared place e _ h
