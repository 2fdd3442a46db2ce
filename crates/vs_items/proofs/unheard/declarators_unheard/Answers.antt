use Rattle.vs_grammar.specs.Trees as tree
use Rattle.vs_ast.specs.Views as view
use Rattle.vs_elaborated.specs.Environments.{named}
use Rattle.vs_elaborated.specs.Unheard.{value_unheard}
use Rattle.vs_scope.specs.Frames.{view_env}
use Rattle.vs_items.proofs.FaultLists.{least_more}
use Rattle.vs_items.proofs.unheard.declarators_unheard.Goals as goal

pub loop-d-preserved : goal.loop-d-preserved
loop-d-preserved c =
    least_more view.declarator (λ (d : tree.Declarator). value_unheard c.args.place (named (view_env c.args.here.now)) d.value) c.args.names.now c.loop-d.d-index c.d-item.result _ _ _ c.loop-d-test.true c.d-item.is
    c.first_of-fault.ensures c.loop-d.invariant c.in_ok-found.ensures
