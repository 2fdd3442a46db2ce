use Rattle.vs_ast.specs.Views as view
use Rattle.vs_elaborated.specs.Uses.{is_variable_among}
use Rattle.vs_scope.proofs.LocalLists.{ArePushed}
use Rattle.vs_scope.proofs.locals.push_used_among.Given as goal

abbrev pub invariant-loop-v : goal.invariant-loop-v
invariant-loop-v l = ArePushed (is_variable_among (view.statements l.parts)) l.all l.fn.list.items l.list.items l.v-index
