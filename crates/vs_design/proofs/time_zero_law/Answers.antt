use Rattle.vs_design.proofs.Solved.{one_families}
use Rattle.vs_design.proofs.time_zero_law.Goals as goal

pub returns : goal.returns
returns c = one_families
