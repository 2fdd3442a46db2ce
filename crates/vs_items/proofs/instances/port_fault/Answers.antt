use Rattle.std.proofs.Common.{◌≡◌, Bool, List, Option, IfOk, option_map, ap, sym, subst, ◌∙◌}
use Rattle.vs_ast.specs.declared.expressions.Expr.{Expr}
use Rattle.vs_ast.specs.Views as view
use Rattle.vs_const.specs.declared.faults.Fault.{Fault}
use Rattle.vs_const.specs.Faults.{least}
use Rattle.vs_elaborated.specs.Instances.{directed, connected}
use Rattle.vs_scope.specs.Frames.{view_env}
use Rattle.vs_items.specs.Ports.{port_of}
use Rattle.vs_items.proofs.InstanceFaults.{name_of, connected_has}
use Rattle.vs_items.proofs.instances.port_fault.Goals as goal

pub returns-in-Some : goal.returns-in-Some
returns-in-Some c =
    let env = view_env c.args.here.now in
    let p = option_map port_of c.args.port in
    let e = view.expr c.in-Some.e in
    subst (λ (o : Option Expr). IfOk c.directed_fault.result (λ (f : Option Fault). f ≡ least (connected p (view.option view.expr o) env).faults)) (sym c.in-Some.is)
    (subst (λ (fs : List Fault). IfOk c.directed_fault.result (λ (f : Option Fault). f ≡ least fs)) (ap (λ (i : Option Bool). (directed (name_of p) i e env).faults) c.direction.ensures ∙ connected_has p e env)
    (c.directed_fault.ensures (name_of p)))
