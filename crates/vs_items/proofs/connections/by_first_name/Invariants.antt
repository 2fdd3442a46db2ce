use Rattle.std.proofs.Common.{map, take}
use Rattle.vs_ast.specs.Views as view
use Rattle.vs_maps.specs.MapViews.{pairs}
use Rattle.vs_items.specs.Connections.{AreNamed}
use Rattle.vs_items.proofs.connections.by_first_name.Given as goal

abbrev pub invariant-loop-part : goal.invariant-loop-part
invariant-loop-part l = AreNamed (pairs l.names) (map view.named_connection (take l.part-index l.parts))
