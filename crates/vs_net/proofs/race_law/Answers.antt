-- The race has two ends.
use Rattle.vs_net.proofs.BlockingExample.{race_runs}
use Rattle.vs_net.proofs.race_law.Goals as goal

pub returns : goal.returns
returns c = race_runs
