use Rattle.std.proofs.Common.{[], sym, subst}
use Rattle.vs_top.specs.Reports.{IsSimulated}
use Rattle.vs_top.proofs.Keeping.{queue_answered}
use Rattle.vs_top.proofs.run_call.answer_queue.Goals as goal

pub returns-clause-answered : goal.returns-clause-answered
returns-clause-answered g c =
    let job = c.args.job.now in
    let new = c.report.new.desk in
    queue_answered g.D.Desk.told job c.args.order c.args.desk.now new c.nothing_kept.result.outcome c.nothing_kept.result.found.items c.requires.mode
    (subst (IsSimulated g.D.Desk.told job c.args.desk.now new) (sym c.nothing_kept.ensures.outcome) (record {
      middle = c.queue_job-outcome.new.desk;
      outcome = c.queue_job-outcome.result;
      lines = [];
      ended = c.queue_job-outcome.ensures.ended;
      done = c.report.ensures.done;
      stopped = c.report.ensures.stopped;
      stopped_line = c.report.ensures.stopped_line;
    }))
    c.nothing_kept.ensures.none
