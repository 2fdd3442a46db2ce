-- The worked runs.
use Rattle.vs_net.proofs.Worked.{worked_run_is}
use Rattle.vs_net.proofs.worked_law.Goals as goal

pub returns : goal.returns
returns c = worked_run_is
