use Rattle.std.proofs.Common.{rules}
use Rattle.vs_ast.specs.declared.statements.Statement.{the_lemmas}
use Rattle.vs_ast.proofs.Rows.{statement_rows}
use Rattle.vs_ast.proofs.statements.Statement.new_sequence.Goals as goal

pub returns : goal.returns
returns c = search (rules, statement_rows, the_lemmas)
