-- Sets of names.
use Rattle.std.specs.Prelude.{ℕ, Bool, List, is_some}
use Rattle.vs_maps.specs.declared.sets.NameSet.{NameSet}
use Rattle.vs_maps.specs.Maps.{value_at}
use Rattle.vs_maps.specs.MapViews.{pairs}

-- whether a name is there
abbrev pub has : NameSet → List ℕ → Bool
has s name = is_some (value_at name (pairs s.map))
