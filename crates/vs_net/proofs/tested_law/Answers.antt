-- A test of runs.
use Rattle.vs_net.proofs.Checked.{tested_runs_complete}
use Rattle.vs_net.proofs.tested_law.Goals as goal

pub returns : goal.returns
returns c = tested_runs_complete
