-- The example has completed runs.
use Rattle.vs_net.proofs.ExampleRuns.{example_runs}
use Rattle.vs_net.proofs.example_runs_law.Goals as goal

pub returns : goal.returns
returns c = example_runs
