use Rattle.std.proofs.Common.{option_map}
use Rattle.vs_grammar.specs.Shapes.{Given, IsExpr}
use Rattle.vs_ast.specs.Views as view
use Rattle.vs_elaborated.specs.Instances.{module_ports}
use Rattle.vs_scope.specs.Frames.{view_env}
use Rattle.vs_items.specs.Ports.{port_of}
use Rattle.vs_items.proofs.FaultLists.{each_at}
use Rattle.vs_items.proofs.InstanceFaults.{ordered_step}
use Rattle.vs_items.proofs.instances.ordered_fault.Goals as goal

pub port_fault-requires : goal.port_fault-requires
port_fault-requires c = each_at (Given IsExpr) (view.option view.expr) c.args.parts.now c.loop-n.n c.index-parts-n.result c.loop-n-test.true c.index-parts-n.is c.requires

pub loop-n-preserved : goal.loop-n-preserved
loop-n-preserved c = λ m known.
    ordered_step (module_ports m) (view_env c.args.here.now) _ c.args.parts.now c.loop-n.n c.index-parts-n.result (option_map port_of c.port_at.result) c.loop-n.fault c.in_ok-found.found c.first_of-fault.result
    c.loop-n-test.true c.index-parts-n.is (c.port_at.ensures m known) c.in_ok-found.ensures c.first_of-fault.ensures (c.loop-n.invariant m known)
