use Rattle.vs_ast.specs.Views as view
use Rattle.vs_elaborated.specs.Environments.{named}
use Rattle.vs_elaborated.specs.Unheard.{item_unheard}
use Rattle.vs_scope.specs.Frames.{view_env}
use Rattle.vs_items.proofs.FaultLists.{least_more}
use Rattle.vs_items.proofs.unheard.items_unheard.Goals as goal

pub loop-item-preserved : goal.loop-item-preserved
loop-item-preserved c =
    least_more view.item (item_unheard (named (view_env c.args.here.now))) c.args.items.now c.loop-item.item-index c.item-item.result _ _ _ c.loop-item-test.true c.item-item.is
    c.first_of-fault.ensures c.loop-item.invariant c.in_ok-found.ensures
