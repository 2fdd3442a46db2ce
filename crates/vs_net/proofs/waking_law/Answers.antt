-- Who wakes.
use Rattle.vs_net.proofs.StepRules.{waking}
use Rattle.vs_net.proofs.waking_law.Goals as goal

pub returns : goal.returns
returns c = waking
