-- The example of an initial value.
use Rattle.vs_net.proofs.InitialExample.{initial_runs}
use Rattle.vs_net.proofs.initial_example_law.Goals as goal

pub returns : goal.returns
returns c = initial_runs
