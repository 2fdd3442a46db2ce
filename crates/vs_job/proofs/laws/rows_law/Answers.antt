use Rattle.std.proofs.Common.{refl}
use Rattle.vs_job.specs.Job.{job}
use Rattle.vs_job.specs.Bench.{bench}
use Rattle.vs_job.proofs.laws.rows_law.Goals as goal

pub returns : goal.returns
unfolding job bench
returns c = record { jobs = refl; benches = refl }
