use Rattle.std.proofs.Common.{◌≡◌, ◌++◌, map, flat_map, take}
use Rattle.vs_ast.specs.Views as view
use Rattle.vs_items.specs.Ports.{name_bytes, body_parameters}
use Rattle.vs_items.proofs.ports.push_body.Given as goal

abbrev pub invariant-loop-item : goal.invariant-loop-item
invariant-loop-item l = map name_bytes l.names.items ≡ map name_bytes l.fn.names.items ++ flat_map body_parameters (map view.item (take l.item-index l.items))
