use Rattle.std.proofs.Common.{Some}
use Rattle.vs_grammar.specs.Trees as tree
use Rattle.vs_ast.specs.Views as view
use Rattle.vs_elaborated.specs.Environments.{named}
use Rattle.vs_elaborated.specs.Unheard.{value_unheard}
use Rattle.vs_scope.specs.Frames.{view_env}
use Rattle.vs_items.proofs.FaultLists.{least_more}
use Rattle.vs_items.proofs.unheard.assigns_unheard.Goals as goal

pub loop-a-preserved : goal.loop-a-preserved
loop-a-preserved c =
    least_more view.assign (λ (a : tree.Assign). value_unheard c.args.place (named (view_env c.args.here.now)) (Some a.e)) c.args.assigns.now c.loop-a.a-index c.a-item.result _ _ _ c.loop-a-test.true c.a-item.is
    c.first_of-fault.ensures c.loop-a.invariant c.in_ok-found.ensures
