use Rattle.std.proofs.Common.{sym, subst}
use Rattle.vs_job.specs.declared.job.Job.{Job}
use Rattle.vs_job.specs.Job.{IsJob}
use Rattle.vs_top.proofs.Benches.{bench_job_is}
use Rattle.vs_top.proofs.bench_call.run_bench.Goals as goal

pub run_job-requires-clause-job : goal.run_job-requires-clause-job
run_job-requires-clause-job g c = subst (λ (j : Job). IsJob j) (sym c.in-Ok.ensures) (bench_job_is c.args.sizes c.requires)
