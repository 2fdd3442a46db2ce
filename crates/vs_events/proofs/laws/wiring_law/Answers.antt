use Rattle.vs_events.proofs.Listening.{listening_is_heard}
use Rattle.vs_events.proofs.laws.wiring_law.Goals as goal

pub returns : goal.returns
returns c = listening_is_heard
