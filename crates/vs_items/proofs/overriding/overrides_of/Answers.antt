use Rattle.std.proofs.Common.{ℕ, List, Option, Some, IfOk, map, sym, ap, subst, ◌∙◌}
use Rattle.vs_grammar.specs.Trees as tree
use Rattle.vs_ast.specs.declared.expressions.Expr.{Expr}
use Rattle.vs_ast.specs.declared.items.Connections.{Connections}
use Rattle.vs_ast.specs.declared.items.NamedConnection.{NamedConnection}
use Rattle.vs_ast.specs.Views as view
use Rattle.vs_elaborated.specs.Instances.{overrides_by_order, overrides_by_name, said_overrides}
use Rattle.vs_maps.specs.declared.maps.NameMap.{NameMap}
use Rattle.vs_scope.specs.declared.parameters.Override.{Override}
use Rattle.vs_scope.specs.Frames.{env_at, envs}
use Rattle.vs_scope.specs.Overrides.{overrides_of}
use Rattle.vs_items.specs.Overriding.{AreAlike}
use Rattle.vs_items.specs.Ports.{name_bytes}
use Rattle.vs_items.proofs.overriding.overrides_of.Goals as goal

pub returns-in-ByOrder-clause-alike : goal.returns-in-ByOrder-clause-alike
returns-in-ByOrder-clause-alike c = λ m of frames i.
    let env = env_at (envs frames) (Some c.args.frame) in
    subst (λ (x : Connections). IfOk c.by_order.result (λ (o : NameMap Override). AreAlike (overrides_of frames o) (said_overrides of (Some m) (view.connections x) env).overrides)) (sym c.in-ByOrder.is)
    (subst (λ (xs : List (Option Expr)). IfOk c.by_order.result (λ (o : NameMap Override). AreAlike (overrides_of frames o) (said_overrides of (Some m) (tree.ByOrder (map (view.option view.expr) xs)) env).overrides)) c.deref-in-ByOrder.ensures.value
    (subst (λ (ns : List (List ℕ)). IfOk c.by_order.result (λ (o : NameMap Override). AreAlike (overrides_of frames o) (overrides_by_order ns 0 (map (view.option view.expr) c.deref-in-ByOrder.result.now) env).overrides))
    (ap (map name_bytes) c.deref.ensures.value ∙ i.parameters) (c.by_order.ensures.alike frames)))

pub returns-in-ByName-clause-alike : goal.returns-in-ByName-clause-alike
returns-in-ByName-clause-alike c = λ m of frames i.
    let env = env_at (envs frames) (Some c.args.frame) in
    subst (λ (x : Connections). IfOk c.by_name.result (λ (o : NameMap Override). AreAlike (overrides_of frames o) (said_overrides of (Some m) (view.connections x) env).overrides)) (sym c.in-ByName.is)
    (subst (λ (xs : List NamedConnection). IfOk c.by_name.result (λ (o : NameMap Override). AreAlike (overrides_of frames o) (overrides_by_name (map view.named_connection xs) env).overrides)) c.deref-in-ByName.ensures.value
    (c.by_name.ensures.alike frames))
