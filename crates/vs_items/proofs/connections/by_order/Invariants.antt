use Rattle.std.proofs.Common.{◌≡◌, ◌++◌, List, map, drop}
use Rattle.vs_grammar.specs.Shapes.{Each}
use Rattle.vs_ast.specs.Views as view
use Rattle.vs_elaborated.specs.Environments.{Env}
use Rattle.vs_elaborated.specs.Instances.{connected_by_order}
use Rattle.vs_elaborated.specs.Ports as spec
use Rattle.vs_items.specs.Connections.{said}
use Rattle.vs_items.specs.Fine.{AreFineOrdered, IsFineConnected}
use Rattle.vs_items.specs.PortTables.{ArePorts}
use Rattle.vs_items.proofs.connections.by_order.Given as goal

abbrev pub invariant-loop-n : goal.invariant-loop-n
invariant-loop-n l = record {
  said : (ps : List spec.Port) (env : Env) → ArePorts l.ports ps
      → said env l.list.items ++ (connected_by_order ps l.n (map (view.option view.expr) (drop l.n l.parts)) env).connections ≡ (connected_by_order ps 0 (map (view.option view.expr) l.parts) env).connections;
  fine : (ps : List spec.Port) (env : Env) → ArePorts l.ports ps → AreFineOrdered ps 0 env (map (view.option view.expr) l.parts) → Each (IsFineConnected env) l.list.items;
}
