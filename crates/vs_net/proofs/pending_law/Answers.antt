-- One pending update.
use Rattle.vs_net.proofs.StepRules.{one_pending}
use Rattle.vs_net.proofs.pending_law.Goals as goal

pub returns : goal.returns
returns c = one_pending
