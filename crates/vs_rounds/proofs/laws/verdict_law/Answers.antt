use Rattle.vs_rounds.proofs.Runs.{every_verdict, some_run}
use Rattle.vs_rounds.proofs.laws.verdict_law.Goals as goal

pub returns-clause-every : goal.returns-clause-every
returns-clause-every c = every_verdict c.known_law.ensures.known c.known_law.ensures.controls c.known_law.ensures.fit c.order_law.ensures c.unique_law.ensures

pub returns-clause-some : goal.returns-clause-some
returns-clause-some c = some_run c.known_law.ensures.known c.known_law.ensures.controls c.known_law.ensures.fit c.exists_law.ensures
