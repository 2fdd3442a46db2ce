-- Which events are edges (IEEE 1364-2005, 9.7.2).
use Rattle.std.specs.Prelude.{Bool, true, false}
use Rattle.vs_base.specs.declared.events.Edge.{Edge}
use Rattle.vs_base.specs.declared.events.Edge.TheVariants.{Any}

abbrev pub is_edge : Edge → Bool
is_edge Any = false
is_edge _ = true
