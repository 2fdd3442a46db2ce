use Rattle.vs_job.proofs.Ranges.{IsJob-job}
use Rattle.vs_job.proofs.laws.job_law.Goals as goal

pub returns : goal.returns
returns c = IsJob-job
