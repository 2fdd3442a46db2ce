-- Runs go on to their end.
use Rattle.vs_net.proofs.Continued.{runs_end}
use Rattle.vs_net.proofs.continue_law.Goals as goal

pub returns : goal.returns
returns c = runs_end
