-- One pass settles.
use Rattle.vs_net.proofs.Settled.{one_pass_settles}
use Rattle.vs_net.proofs.pass_law.Goals as goal

pub returns : goal.returns
returns c = one_pass_settles
