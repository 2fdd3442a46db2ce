use Rattle.std.proofs.Common.{Bool, false, Option, ap, sym, ◌∙◌}
use Rattle.vs_ast.specs.declared.expressions.Expr.{Expr}
use Rattle.vs_ast.specs.Views as view
use Rattle.vs_const.specs.Faults.{least, better}
use Rattle.vs_const.specs.Expressions.{typed}
use Rattle.vs_const.proofs.Least.{least_append}
use Rattle.vs_elaborated.specs.Environments.{named}
use Rattle.vs_elaborated.specs.Targets.{target_base}
use Rattle.vs_elaborated.specs.Signals.{is_reg}
use Rattle.vs_scope.specs.Frames.{view_env}
use Rattle.vs_items.specs.Items.{value_faults}
use Rattle.vs_items.proofs.items.declarator_fault.Goals as goal

pub check_selected-requires-clause-fair : goal.check_selected-requires-clause-fair
check_selected-requires-clause-fair c = c.fair_law.ensures c.args.here.now

pub returns-in_ok-value-in-Some : goal.returns-in_ok-value-in-Some
returns-in_ok-value-in-Some c =
    let env = view_env c.args.here.now in
    let n = view.name c.args.d.now.name in
    let e = view.expr c.in-Some.e in
    let variable = is_reg (view.signal_kind c.args.kind) in
    let b = (target_base variable n.place false (named env n.bytes)).faults in
    let target = c.in_ok-target-in-Some.ensures ∙ ap (λ (v : Bool). least (target_base v n.place false (named env n.bytes)).faults) c.is_reg-variable.ensures in
    c.first_of.ensures ∙ ap (λ x. better x c.in_ok-value-in-Some.value) target ∙ ap (better (least b)) c.in_ok-value-in-Some.ensures
    ∙ sym (least_append b (typed e (named env) false).faults)
    ∙ ap (λ (o : Option Expr). least (value_faults env variable n (view.option view.expr o))) (sym c.in-Some.is)
