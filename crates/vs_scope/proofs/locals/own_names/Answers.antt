use Rattle.vs_scope.proofs.OwnNames.{none_own, own_more, own_end}
use Rattle.vs_scope.proofs.locals.own_names.Goals as goal

pub loop-v-init : goal.loop-v-init
loop-v-init c = none_own c.args.all.now c.new-places.result c.new-places.ensures

pub loop-v-preserved : goal.loop-v-preserved
loop-v-preserved c =
    own_more c.args.all.now c.loop-v.v-index c.v-item.result c.loop-v.places c.add_name.new.places c.loop-v.fault c.in_ok-found.found c.first_of-fault.result c.loop-v-test.true c.v-item.is c.loop-v.invariant c.in_ok-found.ensures.places c.in_ok-found.ensures.fault c.first_of-fault.ensures

pub returns-clause-places : goal.returns-clause-places
returns-clause-places c = (own_end c.args.all.now c.loop-v.v-index c.loop-v.places c.loop-v.fault c.loop-v-test.false c.loop-v.invariant).0

pub returns-clause-fault : goal.returns-clause-fault
returns-clause-fault c = (own_end c.args.all.now c.loop-v.v-index c.loop-v.places c.loop-v.fault c.loop-v-test.false c.loop-v.invariant).1
