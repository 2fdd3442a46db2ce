-- The example is lawful.
use Rattle.vs_net.proofs.Example.{example_lawful}
use Rattle.vs_net.proofs.example_law.Goals as goal

pub returns : goal.returns
returns c = example_lawful
