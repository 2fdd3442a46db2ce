use Rattle.vs_refusal.proofs.Chained.{put_then, failed_before}
use Rattle.vs_top.specs.Outcomes.{outcome_line}
use Rattle.vs_top.specs.Verdicts.{misses_text}
use Rattle.vs_top.proofs.verdicts.put_verdicts.Goals as goal

pub returns-in_err-put_misses : goal.returns-in_err-put_misses
returns-in_err-put_misses g c = failed_before _ _ (misses_text c.args.misses.now.found) (outcome_line c.args.outcome.now) _ _ c.from_residual.ensures.0 c.in_err-put_misses.ensures

pub returns : goal.returns
returns g c = put_then c.put_law.ensures.parts _ _ _ (misses_text c.args.misses.now.found) (outcome_line c.args.outcome.now) _ _ c.in_ok-put_misses.ensures c.put_line.ensures
