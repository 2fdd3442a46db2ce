use Rattle.vs_bodies.proofs.Declaring.{none_declared, variables_declared, all_declared}
use Rattle.vs_bodies.proofs.blocks.block_of.Goals as goal

pub loop-v-init : goal.loop-v-init
loop-v-init c = none_declared c.args.takes_variables c.deref-v-items.result.now c.new-map.result c.new-map.ensures

pub loop-v-preserved : goal.loop-v-preserved
loop-v-preserved c =
    variables_declared c.args.takes_variables c.deref-v-items.result.now c.loop-v.map c.add_variables.new.map c.loop-v.v-index c.v-item.result c.loop-v.repeated c.in_ok-found.found c.first_of-repeated.result c.loop-v.untaken c.untaken_variable.result c.first_of-untaken.result
    c.loop-v-test.true c.v-item.is c.in_ok-found.ensures.locals c.in_ok-found.ensures.fault c.first_of-repeated.ensures c.untaken_variable.ensures c.first_of-untaken.ensures c.loop-v.invariant

pub returns-clause-locals : goal.returns-clause-locals
returns-clause-locals c =
    (all_declared c.args.takes_variables c.deref-v-items.result.now c.args.scope.now.variables.items c.loop-v.map c.loop-v.v-index c.loop-v.repeated c.loop-v.untaken c.first_of.result c.deref-v-items.ensures.value c.loop-v-test.false c.first_of.ensures c.loop-v.invariant).0

pub returns-clause-fault : goal.returns-clause-fault
returns-clause-fault c =
    (all_declared c.args.takes_variables c.deref-v-items.result.now c.args.scope.now.variables.items c.loop-v.map c.loop-v.v-index c.loop-v.repeated c.loop-v.untaken c.first_of.result c.deref-v-items.ensures.value c.loop-v-test.false c.first_of.ensures c.loop-v.invariant).1
