-- The level run is a completed run, and so ends with the solution.
use Rattle.vs_net.proofs.Levelled.{level_run_is_one}
use Rattle.vs_net.proofs.exists_law.Goals as goal

pub returns : goal.returns
returns c = level_run_is_one
