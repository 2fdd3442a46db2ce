use Rattle.vs_ast.specs.Views as view
use Rattle.vs_grammar.specs.Shapes.{Given, IsExpr}
use Rattle.vs_scope.specs.Frames.{view_env}
use Rattle.vs_items.specs.Values.{value_faults}
use Rattle.vs_items.proofs.FaultLists.{least_more, each_at}
use Rattle.vs_items.proofs.values.values_fault.Goals as goal

pub value_fault-requires : goal.value_fault-requires
value_fault-requires c = each_at (Given IsExpr) (view.option view.expr) c.args.parts.now c.loop-part.part-index c.part-item.result c.loop-part-test.true c.part-item.is c.requires

pub loop-part-preserved : goal.loop-part-preserved
loop-part-preserved c =
    least_more (view.option view.expr) (value_faults (view_env c.args.here.now) c.args.needed) c.args.parts.now c.loop-part.part-index c.part-item.result _ _ _ c.loop-part-test.true c.part-item.is
    c.first_of-fault.ensures c.loop-part.invariant c.in_ok-found.ensures
