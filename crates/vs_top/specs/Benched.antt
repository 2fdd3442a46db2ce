-- How a bench ended, and what was reported of it.
use Rattle.std.specs.Prelude.{◌≡◌, ◌⊎◌, Bool, true, []}
use Rattle.vs_desk.specs.Desk.{Told, no_register}
use Rattle.vs_job.specs.declared.bench.Bench.{Bench}
use Rattle.vs_bench.specs.Bench as bench
use Rattle.vs_top.specs.declared.outcome.Outcome.{Outcome}
use Rattle.vs_top.specs.declared.outcome.Outcome.TheVariants.{ReadFault, WriteFault, Memory}
use Rattle.vs_top.specs.Reported.{OnDone, OnStopped, ReportsDone}
use Rattle.vs_top.specs.Reports.{IsReported}
use Rattle.vs_top.specs.Ended.{IsEnd}

-- a failed call on the desk of a bench is want of memory, since no call on it is to fail and all its files are there
abbrev pub of_bench : Outcome → Outcome
of_bench (ReadFault place) = Memory
of_bench (WriteFault place) = Memory
of_bench o = o

-- Its job ended so over a desk that tells all and has the files of the bench.
pub record IsBenchEnd (b : Bench) (o : Outcome) : Type 0 where
  pub told : Told true
  pub inner : Outcome
  pub ended : IsEnd (bench.job b.lanes) (record { register = no_register; contents = bench.files b.vectors b.lanes }) told [] inner
  pub outcome_is : o ≡ of_bench inner

-- The bench ended so, or there was no memory for its files, and then its line was reported on the desk that it was handed, which nothing else
-- touches. Where the line of a run that is done was lost, and only there, the answer is a fault at place 0, and that has its line put behind.
pub record IsBenched {tells : Bool} (b : Bench) (old new : Told tells) (result : Outcome) : Type 0 where
  pub outcome : Outcome
  pub ended : (outcome ≡ Memory) ⊎ IsBenchEnd b outcome
  pub done : OnDone outcome (ReportsDone old new [] outcome result)
  pub stopped : OnStopped outcome (result ≡ outcome)
  pub stopped_line : OnStopped outcome (IsReported old new outcome)
