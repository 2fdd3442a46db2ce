-- What overrides parameters, and what parameters are found to be.
use Rattle.std.specs.Prelude.{◌≡◌, ◌<◌, ℕ, List, [], ◌∷◌, map, length, Some}
use Rattle.vs_grammar.specs.Shapes.{IsExpr}
use Rattle.vs_ast.specs.Views as view
use Rattle.vs_ast.specs.declared.expressions.Expr.{Expr}
use Rattle.vs_ast.specs.declared.items.Parameters.{Parameters}
use Rattle.vs_const.specs.Faults.{least}
use Rattle.vs_const.specs.Typed.{Typed}
use Rattle.vs_const.specs.Expressions.{constant}
use Rattle.vs_elaborated.specs.Environments.{named}
use Rattle.vs_elaborated.specs.Declarations.{ParameterSort}
use Rattle.vs_elaborated.specs.Parameters as spec
use Rattle.vs_scope.specs.declared.frames.Frame.{Frame}
use Rattle.vs_maps.specs.declared.maps.NameMap.{NameMap}
use Rattle.vs_scope.specs.declared.parameters.Override.{Override}
use Rattle.vs_scope.specs.declared.parameters.SaidParameter.{SaidParameter}
use Rattle.vs_maps.specs.Maps.{Pair}
use Rattle.vs_maps.specs.MapViews.{pairs}
use Rattle.vs_scope.specs.Frames.{env_at, envs}
use Rattle.vs_scope.specs.Views.{evaluated}

-- what an override says where its instance stands
abbrev pub override_typed : List Frame → Override → Typed
override_typed frames o = constant (view.expr o.value.now) (named (env_at (envs frames) (Some o.frame)))

-- of all names
abbrev pub overrides_of : List Frame → NameMap Override → List spec.Override
overrides_of frames m = map (λ (p : Pair Override). record { name = p.name; typed = override_typed frames p.value }) (pairs m)

-- each is an expression in a scope
abbrev pub EachOverride : ℕ → List (Pair Override) → Type 0
EachOverride count [] = Unit {0}
EachOverride count (p ∷ ps) = (IsExpr (view.expr p.value.value.now) × (p.value.frame < count)) × EachOverride count ps

-- of all names
pub record AreOverrides (frames : List Frame) (m : NameMap Override) : Type 0 where
  pub each : EachOverride (length frames) (pairs m)

-- a declaration of a parameter
abbrev pub parameter_sort : Parameters → Expr → ParameterSort
parameter_sort p e = record { is_local = p.is_local; value_type = view.value_type p.value_type; value = view.expr e }

-- what a parameter is found to be
pub record IsSaidParameter (c : SaidParameter) (s : spec.SaidParameter) : Type 0 where
  pub value : evaluated c.value ≡ s.declared
  pub fault : c.fault ≡ least s.faults
