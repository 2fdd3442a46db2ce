use Rattle.vs_grammar.specs.Trees as tree
use Rattle.vs_ast.specs.Views as view
use Rattle.vs_elaborated.specs.Environments.{named}
use Rattle.vs_elaborated.specs.Unheard.{connections_unheard}
use Rattle.vs_scope.specs.Frames.{view_env}
use Rattle.vs_items.proofs.FaultLists.{least_more}
use Rattle.vs_items.proofs.unheard.each_unheard.Goals as goal

pub loop-i-preserved : goal.loop-i-preserved
loop-i-preserved c =
    least_more view.instance (λ (i : tree.Instance). connections_unheard c.args.place (named (view_env c.args.here.now)) i.connections) c.args.instances.now c.loop-i.i-index c.i-item.result _ _ _ c.loop-i-test.true c.i-item.is
    c.first_of-fault.ensures c.loop-i.invariant c.in_ok-found.ensures
