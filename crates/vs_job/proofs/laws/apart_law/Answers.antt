use Rattle.vs_job.proofs.Benches.{bench-none}
use Rattle.vs_job.proofs.laws.apart_law.Goals as goal

pub returns : goal.returns
returns c = bench-none
