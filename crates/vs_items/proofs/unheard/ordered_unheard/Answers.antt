use Rattle.vs_ast.specs.Views as view
use Rattle.vs_elaborated.specs.Environments.{named}
use Rattle.vs_elaborated.specs.Unheard.{value_unheard}
use Rattle.vs_scope.specs.Frames.{view_env}
use Rattle.vs_items.proofs.FaultLists.{least_more}
use Rattle.vs_items.proofs.unheard.ordered_unheard.Goals as goal

pub loop-part-preserved : goal.loop-part-preserved
loop-part-preserved c =
    least_more (view.option view.expr) (value_unheard c.args.place (named (view_env c.args.here.now))) c.args.parts.now c.loop-part.part-index c.part-item.result _ _ _ c.loop-part-test.true c.part-item.is
    c.first_of-fault.ensures c.loop-part.invariant c.in_ok-found.ensures
