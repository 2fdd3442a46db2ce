use Rattle.vs_ast.specs.Views as view
use Rattle.vs_elaborated.specs.Environments.{named}
use Rattle.vs_elaborated.specs.Unheard.{signals_unheard}
use Rattle.vs_scope.specs.Frames.{view_env}
use Rattle.vs_items.proofs.FaultLists.{least_more}
use Rattle.vs_items.proofs.unheard.declared_unheard.Goals as goal

pub loop-s-preserved : goal.loop-s-preserved
loop-s-preserved c =
    least_more view.signals (signals_unheard (named (view_env c.args.here.now))) c.args.ports.now c.loop-s.s-index c.s-item.result _ _ _ c.loop-s-test.true c.s-item.is
    c.first_of-fault.ensures c.loop-s.invariant c.in_ok-found.ensures
