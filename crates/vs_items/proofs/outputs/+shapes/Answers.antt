use Rattle.std.proofs.Common.{rules, List, ap, sym, ◌∙◌, arith}
use Rattle.std.specs.Prelude.{is_some}
use Rattle.std.specs.List.{list_all}
use Rattle.std.proofs.lemmas.List.{take_all}
use Rattle.vs_grammar.specs.Trees as tree
use Rattle.vs_ast.specs.Views as view
use Rattle.vs_ast.proofs.Rows.{expr_rows}
use Rattle.vs_ast.specs.declared.expressions.Expr.{Expr, the_lemmas}
use Rattle.vs_elaborated.specs.Targets.{as_target, as_targets}
use Rattle.vs_build.proofs.Lists.{concatenation_view}
use Rattle.vs_build.proofs.OutputFacts.{part_falls}
use Rattle.vs_items.proofs.OutputFaults.{is_output, all_some, parts_some}
use Rattle.vs_items.proofs.outputs.+shapes.Goals as goal

pub is_target-are_targets-requires : goal.is_target-are_targets-requires
is_target-are_targets-requires t c = search (rules, expr_rows, the_lemmas)

pub is_target-returns-in-Concatenation : goal.is_target-returns-in-Concatenation
is_target-returns-in-Concatenation t c =
    let parts = c.in-Concatenation.parts.items in
    c.are_targets.ensures ∙ ap (λ (xs : List Expr). is_some (as_targets (view.exprs xs))) c.deref.ensures.value
    ∙ sym (parts_some c.in-Concatenation.place (as_targets (view.exprs parts)))
    ∙ sym (ap (λ (x : tree.Expr). is_some (as_target x)) (ap view.expr c.in-Concatenation.is ∙ concatenation_view c.in-Concatenation.place c.in-Concatenation.parts))

pub are_targets-is_target-one-requires : goal.are_targets-is_target-one-requires
are_targets-is_target-one-requires t c = (part_falls c.args.parts.now c.loop-part.part-index c.part-item.result t (omega arith) c.part-item.is c.decreases, tt)

pub are_targets-returns : goal.are_targets-returns
are_targets-returns t c =
    c.loop-part.invariant ∙ ap (λ (xs : List Expr). list_all is_output xs) (take_all c.loop-part.part-index c.args.parts.now c.loop-part-test.false) ∙ sym (all_some c.args.parts.now)
