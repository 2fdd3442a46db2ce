-- The sixteen changes, for negedges.
use Rattle.vs_net.proofs.StepRules.{negedge_table}
use Rattle.vs_net.proofs.negedge_law.Goals as goal

pub returns : goal.returns
returns c = negedge_table
