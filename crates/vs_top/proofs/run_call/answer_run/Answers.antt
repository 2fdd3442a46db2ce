use Rattle.std.proofs.Common.{sym, subst, ◌∙◌}
use Rattle.vs_top.specs.Reports.{IsSimulated}
use Rattle.vs_top.proofs.Keeping.{run_answered}
use Rattle.vs_top.proofs.run_call.answer_run.Goals as goal

pub returns-clause-answered : goal.returns-clause-answered
returns-clause-answered g c =
    let job = c.args.job.now in
    let new = c.run_and_report.new.desk in
    run_answered g.D.Desk.told job c.args.desk.now new c.nothing_kept.result.outcome c.nothing_kept.result.found.items c.requires.mode
    (subst (IsSimulated g.D.Desk.told job c.args.desk.now new) (sym c.nothing_kept.ensures.outcome) c.run_and_report.ensures.ended) c.nothing_kept.ensures.none

pub returns-clause-operations : goal.returns-clause-operations
returns-clause-operations g c = λ s is. c.run_and_report.ensures.operations s (sym c.nothing_kept.ensures.outcome ∙ is)
