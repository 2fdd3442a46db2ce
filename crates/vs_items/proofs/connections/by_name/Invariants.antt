use Rattle.std.proofs.Common.{◌≡◌, List, map, flat_map, take}
use Rattle.vs_grammar.specs.Trees as tree
use Rattle.vs_grammar.specs.Shapes.{Each}
use Rattle.vs_elaborated.specs.Environments.{Env}
use Rattle.vs_elaborated.specs.Ports as spec
use Rattle.vs_maps.specs.MapViews.{pairs}
use Rattle.vs_items.specs.Connections.{said, AreNamed, connected_at}
use Rattle.vs_items.specs.Fine.{IsFineConnected, IsFineNamed}
use Rattle.vs_items.specs.PortTables.{ArePorts}
use Rattle.vs_items.specs.Ports.{port_of}
use Rattle.vs_items.proofs.connections.by_name.Given as goal

abbrev pub invariant-loop-port : goal.invariant-loop-port
invariant-loop-port l = record {
  said : (ps : List spec.Port) (cs : List tree.NamedConnection) (env : Env) → ArePorts l.ports ps → AreNamed (pairs l.names) cs
      → said env l.list.items ≡ flat_map (λ (p : spec.Port). connected_at ps cs env p.name) (map port_of (take l.port-index l.port-items));
  fine : (ps : List spec.Port) (cs : List tree.NamedConnection) (env : Env) → ArePorts l.ports ps → AreNamed (pairs l.names) cs → Each (IsFineNamed ps env) cs → Each (IsFineConnected env) l.list.items;
}
