use Rattle.vs_scope.proofs.OwnNames.{AreOwn}
use Rattle.vs_scope.proofs.locals.own_names.Given as goal

abbrev pub invariant-loop-v : goal.invariant-loop-v
invariant-loop-v l = AreOwn l.all l.v-index l.places l.fault
