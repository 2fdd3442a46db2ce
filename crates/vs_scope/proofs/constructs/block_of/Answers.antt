use Rattle.std.proofs.Common.{rules}
use Rattle.vs_ast.proofs.Rows.{item_rows}
use Rattle.vs_ast.specs.declared.items.GenerateBlock.{the_lemmas}
use Rattle.vs_scope.proofs.Steps.{items_are}
use Rattle.vs_scope.proofs.constructs.block_of.Goals as goal

pub returns-in-Enclosed : goal.returns-in-Enclosed
returns-in-Enclosed c = search (rules, item_rows, items_are, the_lemmas)
