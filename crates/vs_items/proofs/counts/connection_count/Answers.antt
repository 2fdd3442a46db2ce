use Rattle.std.proofs.Common.{◌≡◌, ℕ, Some, List, Option, length, map, ap, sym, subst, ◌∙◌, IfOk}
use Rattle.vs_grammar.specs.Trees as tree
use Rattle.vs_ast.specs.declared.expressions.Expr.{Expr}
use Rattle.vs_ast.specs.declared.items.NamedConnection.{NamedConnection}
use Rattle.vs_ast.specs.declared.items.Connections.{Connections}
use Rattle.vs_ast.specs.Views as view
use Rattle.vs_elaborated.specs.Ports.{ports_of}
use Rattle.vs_elaborated.specs.Instances.{connected_by_name, in_port_order, said_connections}
use Rattle.vs_items.proofs.counts.connection_count.Goals as goal

pub returns-in-ByOrder : goal.returns-in-ByOrder
returns-in-ByOrder c = λ m name env i.
    c.ordered_count.ensures (ports_of m) env i.ports
    ∙ ap (λ (xs : List (Option Expr)). length (said_connections (Some m) name (tree.ByOrder (map (view.option view.expr) xs)) env).connections) c.deref.ensures.value
    ∙ ap (λ (x : Connections). length (said_connections (Some m) name (view.connections x) env).connections) (sym c.in-ByOrder.is)

pub returns-in-ByName : goal.returns-in-ByName
returns-in-ByName c = λ m name env i.
    subst (λ (x : Connections). IfOk c.named_count.result (λ (n : ℕ). n ≡ length (said_connections (Some m) name (view.connections x) env).connections)) (sym c.in-ByName.is)
    (subst (λ (xs : List NamedConnection). IfOk c.named_count.result (λ (n : ℕ). n ≡ length (in_port_order (ports_of m) (connected_by_name (ports_of m) (map view.named_connection xs) env).connections))) c.deref-in-ByName.ensures.value
    (c.named_count.ensures (ports_of m) env i.ports))
