-- The sixteen changes.
use Rattle.vs_net.proofs.StepRules.{posedge_table}
use Rattle.vs_net.proofs.posedge_law.Goals as goal

pub returns : goal.returns
returns c = posedge_table
