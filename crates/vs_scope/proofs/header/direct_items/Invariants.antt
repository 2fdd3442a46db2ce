use Rattle.std.proofs.Common.{map, flat_map, drop}
use Rattle.vs_ast.specs.Views as view
use Rattle.vs_elaborated.specs.Ports.{item_directions}
use Rattle.vs_maps.specs.Sets.{has}
use Rattle.vs_scope.proofs.HeaderLoops.{AreDirected}
use Rattle.vs_scope.proofs.header.direct_items.Given as goal

abbrev pub invariant-loop-item : goal.invariant-loop-item
invariant-loop-item l = AreDirected (has l.known) (has l.fn.directed) (has l.directed) l.fault (flat_map item_directions (map view.item (drop l.item-index l.items))) (flat_map item_directions (map view.item l.items))
