use Rattle.std.proofs.Common.{[]}
use Rattle.vs_top.specs.declared.outcome.Outcome.TheVariants.{Done}
use Rattle.vs_top.proofs.run_call.run_and_report.Goals as goal

pub returns-in-Ok-clause-ended : goal.returns-in-Ok-clause-ended
returns-in-Ok-clause-ended g c = record {
  middle = c.run_job.new.desk;
  outcome = Done c.in-Ok.summary;
  lines = [];
  ended = c.in-Ok.ensures.done;
  done = c.report.ensures.done;
  stopped = c.report.ensures.stopped;
  stopped_line = c.report.ensures.stopped_line;
}

pub returns-in-Err-clause-ended : goal.returns-in-Err-clause-ended
returns-in-Err-clause-ended g c = record {
  middle = c.run_job.new.desk;
  outcome = c.in-Err.outcome;
  lines = [];
  ended = c.in-Err.ensures.stopped;
  done = c.report-in-Err.ensures.done;
  stopped = c.report-in-Err.ensures.stopped;
  stopped_line = c.report-in-Err.ensures.stopped_line;
}
