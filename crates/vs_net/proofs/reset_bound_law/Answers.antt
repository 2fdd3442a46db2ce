-- The example has weights.
use Rattle.vs_net.proofs.ResetExample.{reset_is_bounded}
use Rattle.vs_net.proofs.reset_bound_law.Goals as goal

pub returns : goal.returns
returns c = reset_is_bounded
