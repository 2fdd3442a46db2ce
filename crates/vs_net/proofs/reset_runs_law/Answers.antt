-- The example has completed runs.
use Rattle.vs_net.proofs.ResetExample.{reset_runs}
use Rattle.vs_net.proofs.reset_runs_law.Goals as goal

pub returns : goal.returns
returns c = reset_runs
