use Rattle.vs_design.proofs.Bounded.{bound_of}
use Rattle.vs_design.proofs.bound_law.Goals as goal

pub returns : goal.returns
returns c = bound_of
