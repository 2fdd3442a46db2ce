use Rattle.std.proofs.Common.{Option, length, subst}
use Rattle.vs_grammar.specs.Shapes.{Given, IsExpr}
use Rattle.vs_ast.specs.declared.expressions.Expr.{Expr}
use Rattle.vs_ast.specs.Views as view
use Rattle.vs_maps.specs.MapViews.{pairs}
use Rattle.vs_items.proofs.OverridingSteps.{each_may}
use Rattle.vs_items.proofs.overriding.note_override.Goals as goal

pub returns-in_ok-note-in-Some-value-clause-fine : goal.returns-in_ok-note-in-Some-value-clause-fine
returns-in_ok-note-in-Some-value-clause-fine c = λ frames fine shaped within. record {
  each = each_may (length frames) (pairs c.args.overrides.now) (pairs c.note.new.map) c.in-Some.name.now _ c.in_ok-note-in-Some-value.ensures.may fine.each
      (subst (λ (o : Option Expr). Given IsExpr (view.option view.expr o)) c.in-Some-value.is shaped, within);
}
