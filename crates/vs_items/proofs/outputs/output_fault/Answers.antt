use Rattle.std.proofs.Common.{◌≡◌, ℕ, false, List, Option, IfOk, ap, subst, sym, ◌∙◌}
use Rattle.vs_grammar.specs.Trees.{expr_place}
use Rattle.vs_ast.specs.Views as view
use Rattle.vs_const.specs.declared.faults.Fault.{Fault}
use Rattle.vs_const.specs.Faults.{least, better, fault}
use Rattle.vs_const.specs.declared.rules.Rule.TheVariants.{WrongKind}
use Rattle.vs_const.specs.Expressions.{typed}
use Rattle.vs_const.proofs.Least.{least_append}
use Rattle.vs_elaborated.specs.Environments.{named}
use Rattle.vs_scope.specs.Frames.{view_env}
use Rattle.vs_items.proofs.OutputFaults.{target_output, no_target}
use Rattle.vs_items.proofs.outputs.output_fault.Goals as goal

pub returns-then-is_target : goal.returns-then-is_target
returns-then-is_target c = λ name.
    subst (λ (fs : List Fault). IfOk c.part_fault.result (λ (f : Option Fault). f ≡ least fs))
    (target_output name (view.expr c.args.e.now) (view_env c.args.here.now) (sym c.is_target.ensures ∙ c.if-is_target.true))
    c.part_fault.ensures

pub returns-in_ok-found : goal.returns-in_ok-found
returns-in_ok-found c = λ name.
    let e = view.expr c.args.e.now in
    let env = view_env c.args.here.now in
    let fs = (typed e (named env) false).faults in
    c.first_of.ensures ∙ ap (λ a. better a c.in_ok-found.found) (c.fault_at.ensures ∙ ap (λ (p : ℕ). least (fault WrongKind p)) c.place_of.ensures)
    ∙ ap (better (least (fault WrongKind (expr_place e)))) c.in_ok-found.ensures
    ∙ sym (least_append (fault WrongKind (expr_place e)) fs)
    ∙ ap least (no_target name e env (sym c.is_target.ensures ∙ c.if-is_target.false))
