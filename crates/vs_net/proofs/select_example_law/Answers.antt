-- The example of a selector.
use Rattle.vs_net.proofs.SelectExample.{select_runs}
use Rattle.vs_net.proofs.select_example_law.Goals as goal

pub returns : goal.returns
returns c = select_runs
