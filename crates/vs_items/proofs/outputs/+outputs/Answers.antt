use Rattle.std.proofs.Common.{rules, ◌≡◌, List, Option, IfOk, map, flat_map, ap, subst, sym, ◌∙◌, arith}
use Rattle.std.proofs.lemmas.List.{take_all}
use Rattle.vs_grammar.specs.Trees as tree
use Rattle.vs_grammar.specs.Shapes.{IsExpr, AreExprs}
use Rattle.vs_ast.specs.Views as view
use Rattle.vs_ast.proofs.Rows.{expr_rows}
use Rattle.vs_ast.specs.declared.expressions.Expr.{Expr, the_lemmas}
use Rattle.vs_const.specs.declared.faults.Fault.{Fault}
use Rattle.vs_const.specs.Faults.{least}
use Rattle.vs_elaborated.specs.Environments.{named}
use Rattle.vs_scope.specs.Frames.{view_env}
use Rattle.vs_build.proofs.Lists.{concatenation_view}
use Rattle.vs_build.proofs.OutputFacts.{part_falls}
use Rattle.vs_items.specs.Outputs.{found_faults, found_parts}
use Rattle.vs_items.proofs.FaultLists.{least_more}
use Rattle.vs_items.proofs.OutputFaults.{parts_found, parts_shaped, part_at}
use Rattle.vs_items.proofs.outputs.+outputs.Goals as goal

pub part_fault-check_selected-requires-clause-shaped : goal.part_fault-check_selected-requires-clause-shaped
part_fault-check_selected-requires-clause-shaped t c = (subst (λ (x : Expr). IsExpr (view.expr x)) c.in-Named.is c.requires).1

pub part_fault-check_selected-requires-clause-fair : goal.part_fault-check_selected-requires-clause-fair
part_fault-check_selected-requires-clause-fair t c = c.fair_law.ensures c.args.here.now

pub part_fault-returns-in-Named : goal.part_fault-returns-in-Named
part_fault-returns-in-Named t c =
    subst (λ (x : Expr). IfOk c.check_selected.result (λ (f : Option Fault). f ≡ least (found_faults (view.expr x) (named (view_env c.args.here.now))))) (sym c.in-Named.is) c.check_selected.ensures

pub part_fault-parts_fault-requires : goal.part_fault-parts_fault-requires
part_fault-parts_fault-requires t c = (
  search (rules, expr_rows, the_lemmas),
  subst (λ (xs : List Expr). AreExprs (view.exprs xs)) (sym c.deref.ensures.value)
      (parts_shaped (view.exprs c.in-Concatenation.parts.items) (subst IsExpr (ap view.expr c.in-Concatenation.is ∙ concatenation_view c.in-Concatenation.place c.in-Concatenation.parts) c.requires)),
)

pub part_fault-returns-in-Concatenation : goal.part_fault-returns-in-Concatenation
part_fault-returns-in-Concatenation t c =
    let find = named (view_env c.args.here.now) in
    subst (λ (fs : List Fault). IfOk c.parts_fault.result (λ (f : Option Fault). f ≡ least fs))
    (ap (λ (xs : List Expr). found_parts (view.exprs xs) find) c.deref.ensures.value
    ∙ sym (ap (λ (x : tree.Expr). found_faults x find) (ap view.expr c.in-Concatenation.is ∙ concatenation_view c.in-Concatenation.place c.in-Concatenation.parts)))
    c.parts_fault.ensures

pub parts_fault-part_fault-requires : goal.parts_fault-part_fault-requires
parts_fault-part_fault-requires t c =
    (part_falls c.args.list.now c.loop-part.part-index c.part-item.result t (omega arith) c.part-item.is c.decreases, part_at c.args.list.now c.loop-part.part-index c.part-item.result c.requires (omega arith) c.part-item.is)

pub parts_fault-loop-part-preserved : goal.parts_fault-loop-part-preserved
parts_fault-loop-part-preserved t c =
    least_more view.expr (λ (e : tree.Expr). found_faults e (named (view_env c.args.here.now))) c.args.list.now c.loop-part.part-index c.part-item.result _ _ _ c.loop-part-test.true c.part-item.is
    c.first_of-fault.ensures c.loop-part.invariant c.in_ok-found.ensures

pub parts_fault-returns : goal.parts_fault-returns
parts_fault-returns t c =
    let find = named (view_env c.args.here.now) in
    c.loop-part.invariant
    ∙ ap (λ (xs : List Expr). least (flat_map (λ (e : tree.Expr). found_faults e find) (map view.expr xs))) (take_all c.loop-part.part-index c.args.list.now c.loop-part-test.false)
    ∙ ap least (sym (parts_found find c.args.list.now))
