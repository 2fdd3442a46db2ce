use Rattle.std.proofs.Common.{◌≡◌, [], map, take}
use Rattle.vs_ast.specs.Views as view
use Rattle.vs_const.specs.Faults.{least}
use Rattle.vs_elaborated.specs.Instances.{connected_names}
use Rattle.vs_maps.specs.MapViews.{pairs}
use Rattle.vs_items.specs.Noted.{AreFirst}
use Rattle.vs_items.specs.Connected.{is_known}
use Rattle.vs_items.proofs.ConnectedNames.{named_only}
use Rattle.vs_items.proofs.connected.name_fault.Given as goal

-- those before this one
abbrev pub invariant-loop-connection : goal.invariant-loop-connection
invariant-loop-connection g l = record {
  seen : AreFirst (pairs l.seen) (map named_only (map view.named_connection (take l.connection-index l.connections)));
  fault : l.fault ≡ least (connected_names (is_known l.known) [] (map view.named_connection (take l.connection-index l.connections)));
}
