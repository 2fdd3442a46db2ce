-- What a map of names holds.
use Rattle.std.specs.Prelude.{List, map}
use Rattle.vs_maps.specs.declared.maps.NameMap.{NameMap}
use Rattle.vs_maps.specs.Maps.{Pair}

-- the names with their values, in order
abbrev pub pairs : {V : Type 0} → NameMap V → List (Pair V)
pairs m = map (λ e. record { name = e.0.now; value = e.1 }) m.map.entries
