use Rattle.vs_design.proofs.Lawful.{level_run_of}
use Rattle.vs_design.proofs.exists_law.Goals as goal

pub returns : goal.returns
returns c = level_run_of
