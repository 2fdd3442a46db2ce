use Rattle.std.proofs.Common.{rules}
use Rattle.vs_ast.specs.declared.items.GenerateBlock.{the_lemmas}
use Rattle.vs_ast.proofs.Rows.{item_rows}
use Rattle.vs_ast.proofs.items.GenerateBlock.new_enclosed.Goals as goal

pub returns : goal.returns
returns c = search (rules, item_rows, the_lemmas)
