use Rattle.std.proofs.Common.{◌≡◌, ◌+◌, ◌≤◌, List, length, drop, map}
use Rattle.vs_ast.specs.Views as view
use Rattle.vs_elaborated.specs.Environments.{Env}
use Rattle.vs_elaborated.specs.Ports.{Port}
use Rattle.vs_elaborated.specs.Instances.{connected_by_order}
use Rattle.vs_items.specs.PortTables.{ArePorts}
use Rattle.vs_items.proofs.counts.ordered_count.Given as goal

-- those before this one are counted, and the rest comes behind them
abbrev pub invariant-loop-n : goal.invariant-loop-n
invariant-loop-n l = record {
  few : l.count ≤ l.n;
  counted : (ps : List Port) (env : Env) → ArePorts l.ports ps
      → l.count + length (connected_by_order ps l.n (map (view.option view.expr) (drop l.n l.parts)) env).connections ≡ length (connected_by_order ps 0 (map (view.option view.expr) l.parts) env).connections;
}
