use Rattle.vs_ast.specs.Views as view
use Rattle.vs_bodies.proofs.Declaring.{none_added, name_added, all_added}
use Rattle.vs_bodies.proofs.blocks.add_variables.Goals as goal

pub loop-n-init : goal.loop-n-init
loop-n-init c = none_added (view.value_type c.args.v.now.value_type) c.deref-n-items.result.now c.args.map.now

pub loop-n-preserved : goal.loop-n-preserved
loop-n-preserved c =
    name_added (view.value_type c.args.v.now.value_type) c.deref-n-items.result.now c.args.map.now c.loop-n.map c.add_local.new.map c.loop-n.n-index c.n-item.result c.loop-n.fault c.in_ok-found.found c.first_of-fault.result
    c.loop-n-test.true c.n-item.is c.in_ok-found.ensures.locals c.in_ok-found.ensures.fault c.first_of-fault.ensures c.loop-n.invariant

pub returns-clause-locals : goal.returns-clause-locals
returns-clause-locals c = (all_added c.args.v.now c.deref-n-items.result.now c.args.map.now c.loop-n.map c.loop-n.n-index c.loop-n.fault c.deref-n-items.ensures.value c.loop-n-test.false c.loop-n.invariant).0

pub returns-clause-fault : goal.returns-clause-fault
returns-clause-fault c = (all_added c.args.v.now c.deref-n-items.result.now c.args.map.now c.loop-n.map c.loop-n.n-index c.loop-n.fault c.deref-n-items.ensures.value c.loop-n-test.false c.loop-n.invariant).1
