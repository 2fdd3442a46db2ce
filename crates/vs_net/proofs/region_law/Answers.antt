-- The regions of the queue.
use Rattle.vs_net.proofs.StepRules.{regions}
use Rattle.vs_net.proofs.region_law.Goals as goal

pub returns : goal.returns
returns c = regions
