-- The name space of a function, one declaration after the other.
use Rattle.std.specs.Prelude.{◌≡◌, ℕ, List}
use Rattle.vs_elaborated.specs.Statements.{Local}
use Rattle.vs_maps.specs.Maps.{value_at}
use Rattle.vs_maps.specs.MapViews.{pairs}
use Rattle.vs_maps.specs.declared.maps.NameMap.{NameMap}
use Rattle.vs_scope.specs.Locals.{place_of}

-- where these are declared: of two of one name the first
pub record ArePlaces (m : NameMap ℕ) (vs : List Local) : Type 0 where
  pub each : (name : List ℕ) → value_at name (pairs m) ≡ place_of vs name
