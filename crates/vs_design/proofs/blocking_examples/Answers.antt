use Rattle.vs_design.proofs.ExampleBlocking.{blocking_computed}
use Rattle.vs_design.proofs.blocking_examples.Goals as goal

pub returns : goal.returns
returns c = blocking_computed
