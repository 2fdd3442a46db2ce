use Rattle.vs_scope.proofs.Fair.{view_fair}
use Rattle.vs_scope.proofs.numbers.addressed.Goals as goal

pub address_bounds-requires-clause-fair : goal.address_bounds-requires-clause-fair
address_bounds-requires-clause-fair c = view_fair c.args.here.now
