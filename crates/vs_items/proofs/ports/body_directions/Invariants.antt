use Rattle.std.proofs.Common.{map, flat_map, take}
use Rattle.vs_ast.specs.Views as view
use Rattle.vs_elaborated.specs.Ports.{item_directions}
use Rattle.vs_maps.specs.MapViews.{pairs}
use Rattle.vs_items.specs.Noted.{AreFirst}
use Rattle.vs_items.specs.Ports.{named_direction}
use Rattle.vs_items.proofs.ports.body_directions.Given as goal

abbrev pub invariant-loop-item : goal.invariant-loop-item
invariant-loop-item l = AreFirst (pairs l.directions) (map named_direction (flat_map item_directions (map view.item (take l.item-index l.items))))
