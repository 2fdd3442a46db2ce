use Rattle.std.proofs.Common.{◌≡◌, ◌≤◌, List, length, map, take}
use Rattle.vs_ast.specs.Views as view
use Rattle.vs_elaborated.specs.Environments.{Env}
use Rattle.vs_elaborated.specs.Ports.{Port}
use Rattle.vs_elaborated.specs.Instances.{connected_by_name, in_port_order}
use Rattle.vs_items.specs.Ports.{port_of}
use Rattle.vs_items.specs.PortTables.{ArePorts}
use Rattle.vs_items.proofs.counts.named_count.Given as goal

-- those before this one are counted
abbrev pub invariant-loop-port : goal.invariant-loop-port
invariant-loop-port l = record {
  few : l.count ≤ l.port-index;
  counted : (ps : List Port) (env : Env) → ArePorts l.ports ps → l.count ≡ length (in_port_order (map port_of (take l.port-index l.port-items)) (connected_by_name ps (map view.named_connection l.parts) env).connections);
}
