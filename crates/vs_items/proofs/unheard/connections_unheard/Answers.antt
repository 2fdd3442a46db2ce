use Rattle.std.proofs.Common.{◌≡◌, List, Option, IfOk, map, sym, subst}
use Rattle.vs_grammar.specs.Trees as tree
use Rattle.vs_ast.specs.declared.expressions.Expr.{Expr}
use Rattle.vs_ast.specs.declared.items.Connections.{Connections}
use Rattle.vs_ast.specs.declared.items.NamedConnection.{NamedConnection}
use Rattle.vs_ast.specs.Views as view
use Rattle.vs_const.specs.declared.faults.Fault.{Fault}
use Rattle.vs_const.specs.Faults.{least}
use Rattle.vs_elaborated.specs.Environments.{named}
use Rattle.vs_elaborated.specs.Unheard as spec
use Rattle.vs_scope.specs.Frames.{view_env}
use Rattle.vs_items.proofs.unheard.connections_unheard.Goals as goal

pub returns-in-ByOrder : goal.returns-in-ByOrder
returns-in-ByOrder c =
    let find = named (view_env c.args.here.now) in
    subst (λ (x : Connections). IfOk c.ordered_unheard.result (λ (f : Option Fault). f ≡ least (spec.connections_unheard c.args.place find (view.connections x)))) (sym c.in-ByOrder.is)
    (subst (λ (xs : List (Option Expr)). IfOk c.ordered_unheard.result (λ (f : Option Fault). f ≡ least (spec.connections_unheard c.args.place find (tree.ByOrder (map (view.option view.expr) xs))))) c.deref.ensures.value c.ordered_unheard.ensures)

pub returns-in-ByName : goal.returns-in-ByName
returns-in-ByName c =
    let find = named (view_env c.args.here.now) in
    subst (λ (x : Connections). IfOk c.named_unheard.result (λ (f : Option Fault). f ≡ least (spec.connections_unheard c.args.place find (view.connections x)))) (sym c.in-ByName.is)
    (subst (λ (xs : List NamedConnection). IfOk c.named_unheard.result (λ (f : Option Fault). f ≡ least (spec.connections_unheard c.args.place find (tree.ByName (map view.named_connection xs))))) c.deref-in-ByName.ensures.value c.named_unheard.ensures)
