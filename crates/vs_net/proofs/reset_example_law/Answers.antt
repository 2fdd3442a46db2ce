-- The example is lawful.
use Rattle.vs_net.proofs.ResetExample.{reset_lawful}
use Rattle.vs_net.proofs.reset_example_law.Goals as goal

pub returns : goal.returns
returns c = reset_lawful
