-- What overrides the parameters of an instance, as a map of names.
use Rattle.std.specs.Prelude.{◌≡◌, ℕ, List, [], map, Option}
use Rattle.vs_grammar.specs.Trees as tree
use Rattle.vs_elaborated.specs.Environments.{Env}
use Rattle.vs_elaborated.specs.Instances as instances
use Rattle.vs_elaborated.specs.Parameters as spec
use Rattle.vs_elaborated.specs.Parameters.{override_of}
use Rattle.vs_scope.specs.declared.frames.Frame.{Frame}
use Rattle.vs_maps.specs.declared.maps.NameMap.{NameMap}
use Rattle.vs_scope.specs.declared.parameters.Override.{Override}
use Rattle.vs_maps.specs.Maps.{Pair}
use Rattle.vs_maps.specs.MapViews.{pairs}
use Rattle.vs_scope.specs.Overrides.{override_typed}
use Rattle.vs_items.specs.Noted.{AreFirst}

-- each parameter is overridden alike
abbrev pub AreAlike : (a b : List spec.Override) → Type 0
AreAlike a b = (name : List ℕ) → override_of a name ≡ override_of b name

-- what one part says
abbrev pub one_override : Option (List ℕ) → Option tree.Expr → Env → List spec.Override
one_override name e env = (instances.and_override name e env (record { overrides = []; faults = [] })).overrides

-- a name with what it is overridden with
abbrev pub said_override : List Frame → Pair Override → spec.Override
said_override frames p = record { name = p.name; typed = override_typed frames p.value }

-- the map has the first of each name of these
pub record AreSaid (frames : List Frame) (m : NameMap Override) (os : List spec.Override) : Type 0 where
  pub all : List (Pair Override)
  pub first : AreFirst (pairs m) all
  pub are : map (said_override frames) all ≡ os
