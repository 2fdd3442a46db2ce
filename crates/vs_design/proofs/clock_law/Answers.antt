use Rattle.vs_design.proofs.ClosedNets.{clock_nets_are}
use Rattle.vs_design.proofs.clock_law.Goals as goal

pub returns : goal.returns
returns c = clock_nets_are
