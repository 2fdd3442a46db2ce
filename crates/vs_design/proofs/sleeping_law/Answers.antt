use Rattle.vs_design.proofs.SleepingIs.{sleeping_is}
use Rattle.vs_design.proofs.sleeping_law.Goals as goal

pub returns : goal.returns
returns c = sleeping_is
