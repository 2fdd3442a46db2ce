use Rattle.vs_ast.specs.Views as view
use Rattle.vs_elaborated.specs.Uses.{is_variable_in}
use Rattle.vs_scope.proofs.LocalLists.{ArePushed}
use Rattle.vs_scope.proofs.locals.push_used_in.Given as goal

abbrev pub invariant-loop-v : goal.invariant-loop-v
invariant-loop-v l = ArePushed (is_variable_in (view.statement l.s)) l.all l.fn.list.items l.list.items l.v-index
