-- Every order of the steps ends each slot with the solution.
use Rattle.vs_net.proofs.Runs.{every_order}
use Rattle.vs_net.proofs.order_law.Goals as goal

pub returns : goal.returns
returns c = every_order
