-- What a map of places holds.
use Rattle.std.specs.Prelude.{List, map}
use Rattle.vs_maps.specs.declared.places.PlaceMap.{PlaceMap}
use Rattle.vs_maps.specs.Places.{Placed}

-- the places with their values, in order
abbrev pub placed : {V : Type 0} → PlaceMap V → List (Placed V)
placed m = map (λ e. record { place = e.0; value = e.1 }) m.map.entries
