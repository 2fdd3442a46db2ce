use Rattle.std.proofs.Common.{◌≡◌, List, map, take}
use Rattle.vs_grammar.specs.Trees as tree
use Rattle.vs_ast.specs.Views as view
use Rattle.vs_elaborated.specs.Ports.{Direction, header_ports}
use Rattle.vs_maps.specs.MapViews.{pairs}
use Rattle.vs_items.specs.Noted.{AreFirst}
use Rattle.vs_items.specs.Ports.{named_direction, port_of}
use Rattle.vs_items.proofs.ports.plain_ports.Given as goal

abbrev pub invariant-loop-name : goal.invariant-loop-name
invariant-loop-name l =
    (ds : List Direction) → AreFirst (pairs l.directions) (map named_direction ds)
    → map port_of l.ports.items ≡ header_ports (tree.PlainPorts (map view.name (take l.name-index l.names))) ds
