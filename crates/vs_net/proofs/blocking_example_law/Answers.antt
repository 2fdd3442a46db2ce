-- The example of a block that writes at once.
use Rattle.vs_net.proofs.BlockingExample.{blocking_runs}
use Rattle.vs_net.proofs.blocking_example_law.Goals as goal

pub returns : goal.returns
returns c = blocking_runs
