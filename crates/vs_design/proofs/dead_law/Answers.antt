use Rattle.vs_design.proofs.DeadNets.{are_nets, stay}
use Rattle.vs_design.proofs.dead_law.Goals as goal

pub returns : goal.returns
returns c = record { nets = are_nets; stay = stay }
