use Rattle.std.proofs.Common.{rules}
use Rattle.vs_ast.specs.declared.expressions.Expr.{the_lemmas}
use Rattle.vs_ast.proofs.Rows.{expr_rows}
use Rattle.vs_ast.proofs.expressions.Expr.new_application.Goals as goal

pub returns : goal.returns
returns c = search (rules, expr_rows, the_lemmas)
