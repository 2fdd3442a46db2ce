use Rattle.std.proofs.Common.{◌≡◌, ◌≤◌, length, [], Some, List, Option, map, ap, sym, subst, IfOk}
use Rattle.vs_grammar.specs.Shapes.{Each, AreConnections}
use Rattle.vs_grammar.specs.Depths.{connections_depth}
use Rattle.vs_grammar.specs.Spelled.{depth_limit}
use Rattle.vs_ast.specs.declared.expressions.Expr.{Expr}
use Rattle.vs_ast.specs.declared.items.NamedConnection.{NamedConnection}
use Rattle.vs_ast.specs.declared.items.Connections.{Connections}
use Rattle.vs_ast.specs.Views as view
use Rattle.vs_const.specs.Faults.{least, fault_if}
use Rattle.vs_const.specs.declared.rules.Rule.TheVariants.{PortCount}
use Rattle.vs_const.proofs.Formed.{both_nil}
use Rattle.vs_elaborated.specs.Ports.{ports_of}
use Rattle.vs_elaborated.specs.Instances.{connected_names, is_port, has_wrong_count, connected_by_name, connected_by_order, in_port_order, said_connections}
use Rattle.vs_items.specs.Connections.{AreApart, said}
use Rattle.vs_items.specs.Fine.{AreFineOrdered, IsFineNamed}
use Rattle.vs_items.proofs.ConnectedApart.{are_apart}
use Rattle.vs_items.proofs.FineConnections.{are_fine_ordered, are_fine_named}
use Rattle.vs_items.proofs.connections.connections_of.Goals as goal

pub returns-in-ByOrder : goal.returns-in-ByOrder
returns-in-ByOrder c = record {
  said = λ m name env i clean.
      subst (λ (x : Connections). IfOk c.by_order.result (λ v. said env v.items ≡ (said_connections (Some m) name (view.connections x) env).connections)) (sym c.in-ByOrder.is)
      (subst (λ (xs : List (Option Expr)). IfOk c.by_order.result (λ v. said env v.items ≡ (connected_by_order (ports_of m) 0 (map (view.option view.expr) xs) env).connections)) c.deref.ensures.value
      (c.by_order.ensures.said (ports_of m) env i.ports));
  fine = λ m name env i shaped shallow clean.
      let es = map (view.option view.expr) c.in-ByOrder.parts.items in
      let s = subst (λ (x : Connections). AreConnections (view.connections x)) c.in-ByOrder.is shaped in
      let d = subst (λ (x : Connections). connections_depth (view.connections x) ≤ depth_limit) c.in-ByOrder.is shallow in
      let none = subst (λ (x : Connections). (said_connections (Some m) name (view.connections x) env).faults ≡ []) c.in-ByOrder.is clean in
      c.by_order.ensures.fine (ports_of m) env i.ports
      (subst (λ (xs : List (Option Expr)). AreFineOrdered (ports_of m) 0 env (map (view.option view.expr) xs)) (sym c.deref.ensures.value)
      (are_fine_ordered (ports_of m) env es s d (both_nil (fault_if (has_wrong_count (Some m) (length es)) PortCount name.place) (connected_by_order (ports_of m) 0 es env).faults none).1));
}

pub returns-in-ByName : goal.returns-in-ByName
returns-in-ByName c = record {
  said = λ m name env i clean.
      let parts = c.in-ByName.parts.items in
      let cs = map view.named_connection parts in
      let none = subst (λ (x : Connections). (said_connections (Some m) name (view.connections x) env).faults ≡ []) c.in-ByName.is clean in
      let apart : AreApart cs = are_apart (is_port (Some m)) cs (ap least (both_nil (connected_names (is_port (Some m)) [] cs) (connected_by_name (ports_of m) cs env).faults none).0) in
      subst (λ (x : Connections). IfOk c.by_name.result (λ v. said env v.items ≡ (said_connections (Some m) name (view.connections x) env).connections)) (sym c.in-ByName.is)
      (subst (λ (xs : List NamedConnection). AreApart (map view.named_connection xs) → IfOk c.by_name.result (λ v. said env v.items ≡ in_port_order (ports_of m) (connected_by_name (ports_of m) (map view.named_connection xs) env).connections)) c.deref-in-ByName.ensures.value
      (λ a. c.by_name.ensures.said (ports_of m) env i.ports a) apart);
  fine = λ m name env i shaped shallow clean.
      let cs = map view.named_connection c.in-ByName.parts.items in
      let s = subst (λ (x : Connections). AreConnections (view.connections x)) c.in-ByName.is shaped in
      let d = subst (λ (x : Connections). connections_depth (view.connections x) ≤ depth_limit) c.in-ByName.is shallow in
      let none = subst (λ (x : Connections). (said_connections (Some m) name (view.connections x) env).faults ≡ []) c.in-ByName.is clean in
      c.by_name.ensures.fine (ports_of m) env i.ports
      (subst (λ (xs : List NamedConnection). Each (IsFineNamed (ports_of m) env) (map view.named_connection xs)) (sym c.deref-in-ByName.ensures.value)
      (are_fine_named (ports_of m) env cs s d (both_nil (connected_names (is_port (Some m)) [] cs) (connected_by_name (ports_of m) cs env).faults none).1));
}
