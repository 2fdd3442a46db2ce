use Rattle.vs_grammar.specs.Shapes.{IsInstance}
use Rattle.vs_ast.specs.Views as view
use Rattle.vs_scope.specs.Frames.{view_env}
use Rattle.vs_items.specs.Instances.{instance_faults}
use Rattle.vs_items.proofs.FaultLists.{least_more, each_at}
use Rattle.vs_items.proofs.instances.all_fault.Goals as goal

pub connections_fault-requires : goal.connections_fault-requires
connections_fault-requires c = (each_at IsInstance view.instance c.args.instances.now c.loop-i.i-index c.i-item.result c.loop-i-test.true c.i-item.is c.requires).1

pub loop-i-preserved : goal.loop-i-preserved
loop-i-preserved c = λ m known.
    least_more view.instance (instance_faults m (view_env c.args.here.now)) c.args.instances.now c.loop-i.i-index c.i-item.result _ _ _ c.loop-i-test.true c.i-item.is
    c.first_of-fault.ensures (c.loop-i.invariant m known) (c.in_ok-found.ensures m known)
