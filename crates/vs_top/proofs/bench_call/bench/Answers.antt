use Rattle.std.proofs.Common.{[]}
use Rattle.vs_top.specs.declared.outcome.Outcome.TheVariants.{Done}
use Rattle.vs_top.proofs.Others.{report_others}
use Rattle.vs_top.proofs.bench_call.bench.Goals as goal

pub returns-in-Ok-clause-others : goal.returns-in-Ok-clause-others
returns-in-Ok-clause-others g c = report_others _ _ [] (Done c.in-Ok.summary) c.report.result c.report.ensures.done c.report.ensures.stopped_line

pub returns-in-Err-clause-others : goal.returns-in-Err-clause-others
returns-in-Err-clause-others g c = report_others _ _ [] c.in-Err.outcome c.report-in-Err.result c.report-in-Err.ensures.done c.report-in-Err.ensures.stopped_line
