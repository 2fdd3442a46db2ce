use Rattle.std.proofs.Common.{rules}
use Rattle.vs_ast.specs.declared.statements.Statement.{the_lemmas}
use Rattle.vs_ast.proofs.Rows.{arm_rows}
use Rattle.vs_ast.proofs.statements.Statement.new_case.Goals as goal

pub returns-in-None : goal.returns-in-None
returns-in-None c = search (rules, arm_rows, the_lemmas)

pub returns-in_ok-other-in-Some : goal.returns-in_ok-other-in-Some
returns-in_ok-other-in-Some c = search (rules, arm_rows, the_lemmas)
