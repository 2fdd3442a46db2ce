use Rattle.vs_scope.proofs.Fair.{view_fair}
use Rattle.vs_scope.proofs.numbers.number.Goals as goal

pub numbered-requires-clause-fair : goal.numbered-requires-clause-fair
numbered-requires-clause-fair c = view_fair c.args.here.now
