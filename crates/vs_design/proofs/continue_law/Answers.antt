use Rattle.vs_design.proofs.Bounded.{runs_end_of}
use Rattle.vs_design.proofs.continue_law.Goals as goal

pub returns : goal.returns
returns c = runs_end_of
