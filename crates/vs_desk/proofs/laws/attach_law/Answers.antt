use Rattle.vs_desk.proofs.Attaching.{with_places-other, with_places-at, with_places-next, with_places-quiet}
use Rattle.vs_desk.proofs.laws.attach_law.Goals as goal

pub returns-clause-others : goal.returns-clause-others
returns-clause-others c = with_places-other

pub returns-clause-each : goal.returns-clause-each
returns-clause-each c = with_places-at

pub returns-clause-next : goal.returns-clause-next
returns-clause-next c = with_places-next

pub returns-clause-quiet : goal.returns-clause-quiet
returns-clause-quiet c = with_places-quiet
