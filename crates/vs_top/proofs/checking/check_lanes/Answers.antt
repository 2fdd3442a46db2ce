use Rattle.std.proofs.Common.{[], sym, ap, ◌∙◌, subst}
use Rattle.vs_misses.specs.Watch.{Watch}
use Rattle.vs_top.specs.Verdicts.{misses_text}
use Rattle.vs_top.specs.Ended.{IsEnd}
use Rattle.vs_top.proofs.Keeping.{as_reported, still_stopped, none_kept, check_answered}
use Rattle.vs_top.proofs.Simulated.{reported_done}
use Rattle.vs_top.proofs.checking.check_lanes.Goals as goal

pub returns-in-Ok-clause-answered : goal.returns-in-Ok-clause-answered
returns-in-Ok-clause-answered g c =
    let job = c.args.job.now in
    let old = g.D.Desk.told c.args.desk.now in
    let rounds = c.check_rounds-outcome in
    let middle = g.D.Desk.told rounds.new.desk in
    let checker = rounds.new.check.checker in
    as_reported g.D.Desk.told job c.args.desk.now c.report_verdicts-reported.new.desk c.report_verdicts-reported.result c.found_kept.result.outcome c.found_kept.result.found.items (sym c.found_kept.ensures.outcome)
    (check_answered g.D.Desk.told job c.args.desk.now c.report_verdicts-reported.new.desk c.report_verdicts-reported.result checker.misses.found c.found_kept.result.found.items c.requires.mode
    (record {
      middle = rounds.new.desk;
      outcome = rounds.result;
      lines = misses_text c.misses.result.now.found;
      ended = subst (λ (w : Watch). IsEnd job old middle (misses_text w.found) rounds.result) (sym c.misses.ensures) (rounds.ensures.ended old c.in-Ok.ensures.begun);
      done = c.report_verdicts-reported.ensures.done;
      stopped = c.report_verdicts-reported.ensures.stopped;
      stopped_line = c.report_verdicts-reported.ensures.stopped_line;
    })
    (ap (λ (w : Watch). misses_text w.found) c.misses.ensures) rounds.ensures.lanes rounds.ensures.missed (λ t s is. rounds.ensures.checked old c.in-Ok.ensures.begun t s is)
    c.found_kept.ensures.done c.found_kept.ensures.stopped)

pub returns-in-Err-clause-answered : goal.returns-in-Err-clause-answered
returns-in-Err-clause-answered g c =
    let job = c.args.job.now in
    let new = c.report.new.desk in
    as_reported g.D.Desk.told job c.args.desk.now new c.report.result c.nothing_kept.result.outcome c.nothing_kept.result.found.items (sym c.nothing_kept.ensures.outcome)
    (none_kept g.D.Desk.told job c.args.desk.now new c.report.result c.nothing_kept.result.found.items
    (record {
      middle = c.begin_check.new.desk;
      outcome = c.in-Err.outcome;
      lines = [];
      ended = c.in-Err.ensures.unbegun;
      done = c.report.ensures.done;
      stopped = c.report.ensures.stopped;
      stopped_line = c.report.ensures.stopped_line;
    })
    (still_stopped c.in-Err.outcome c.report.result c.in-Err.ensures.not_done c.report.ensures.stopped) c.nothing_kept.ensures.none)

pub returns-in-Ok-clause-operations : goal.returns-in-Ok-clause-operations
returns-in-Ok-clause-operations g c = λ s is_done.
    let found = c.misses.result.now.found in
    let rounds = c.check_rounds-outcome in
    let is = reported_done (g.D.Desk.told rounds.new.desk) (g.D.Desk.told c.report_verdicts-reported.new.desk) (misses_text found) rounds.result c.report_verdicts-reported.result
    c.report_verdicts-reported.ensures.done c.report_verdicts-reported.ensures.stopped s (sym c.found_kept.ensures.outcome ∙ is_done) in
    (rounds.ensures.operations s is, rounds.ensures.within (g.D.Desk.told c.args.desk.now) c.in-Ok.ensures.begun s is)
