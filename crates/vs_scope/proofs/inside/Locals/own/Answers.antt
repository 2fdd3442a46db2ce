use Rattle.vs_scope.specs.Locals.{local_at}
use Rattle.vs_scope.proofs.InsideNames.{own_plain}
use Rattle.vs_scope.proofs.inside.Locals.own.Goals as goal

pub returns-in-None-clause-plain : goal.returns-in-None-clause-plain
returns-in-None-clause-plain c = own_plain (local_at c.args.self.now c.args.place)

pub returns-in-Some-clause-plain : goal.returns-in-Some-clause-plain
returns-in-Some-clause-plain c = own_plain (local_at c.args.self.now c.args.place)
