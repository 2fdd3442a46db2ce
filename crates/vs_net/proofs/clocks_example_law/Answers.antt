-- The example of two clocks.
use Rattle.vs_net.proofs.ClocksExample.{clocks_run}
use Rattle.vs_net.proofs.clocks_example_law.Goals as goal

pub returns : goal.returns
returns c = clocks_run
