use Rattle.vs_job.proofs.Benches.{IsBench-bench}
use Rattle.vs_job.proofs.laws.bench_law.Goals as goal

pub returns : goal.returns
returns c = IsBench-bench
