-- Two solutions are the same.
use Rattle.vs_net.proofs.Unique.{one_solution}
use Rattle.vs_net.proofs.unique_law.Goals as goal

pub returns : goal.returns
returns c = one_solution
