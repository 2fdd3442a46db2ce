use Rattle.std.proofs.Common.{rules}
use Rattle.vs_ast.specs.declared.statements.Target.{the_lemmas}
use Rattle.vs_ast.proofs.Rows.{target_rows}
use Rattle.vs_ast.proofs.statements.Target.new_concatenation.Goals as goal

pub returns : goal.returns
returns c = search (rules, target_rows, the_lemmas)
