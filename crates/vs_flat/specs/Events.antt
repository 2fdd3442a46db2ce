-- Which events are edges (IEEE 1364-2005, 9.7.2).
use Rattle.std.specs.Prelude.{Bool}
use Rattle.vs_base.specs.Events.{is_edge}
use Rattle.vs_flat.specs.declared.processes.Event.{Event}

abbrev pub is_edge_event : Event → Bool
is_edge_event e = is_edge e.edge
