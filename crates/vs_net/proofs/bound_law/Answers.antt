-- Between two beginnings of slots there are few steps.
use Rattle.vs_net.proofs.Bounded.{slots_end}
use Rattle.vs_net.proofs.bound_law.Goals as goal

pub returns : goal.returns
returns c = slots_end
