use Rattle.vs_job.proofs.Listed.{same_paths-none}
use Rattle.vs_job.proofs.laws.same_paths_law.Goals as goal

pub returns : goal.returns
returns c = same_paths-none
