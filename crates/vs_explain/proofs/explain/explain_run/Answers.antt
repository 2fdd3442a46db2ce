use Rattle.std.proofs.Common.{List, subst}
use Rattle.vs_job.specs.Job.{Text}
use Rattle.vs_explain.specs.Answered.{IsRun, KeepsFound, ExplainsWords}
use Rattle.vs_explain.proofs.explain.explain_run.Goals as goal

pub returns-clause-asked : goal.returns-clause-asked
returns-clause-asked g c = λ h.
    let mid = c.run_words-answered.new.desk in
    let outcome = c.run_words-answered.result.outcome in
    let found = c.run_words-answered.result.found.items in (
      mid,
      found,
      subst (λ (ws : List Text). IsRun g.D.Desk.told ws c.args.desk.now mid c.args.steps.now c.run_words-answered.new.steps outcome) c.behind_name-asked.ensures c.run_words-answered.ensures.run,
      subst (λ (ws : List Text). KeepsFound g.D.Desk.told ws c.args.desk.now mid outcome found) c.behind_name-asked.ensures c.run_words-answered.ensures.kept,
      subst (λ (ws : List Text). ExplainsWords ws outcome found (g.D.Desk.told mid) (g.D.Desk.told c.explain_words.new.desk)) c.behind_name-asked.ensures c.explain_words.ensures,
    )
