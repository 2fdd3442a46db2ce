use Rattle.std.proofs.Common.{◌++◌}
use Rattle.vs_top.specs.Outcomes.{outcome_line}
use Rattle.vs_top.specs.Verdicts.{misses_text}
use Rattle.vs_top.proofs.Losing.{put_whole, put_part, done_put, done_lost}
use Rattle.vs_top.proofs.verdicts.report_verdicts.Goals as goal

pub returns-in-Ok-clause-done : goal.returns-in-Ok-clause-done
returns-in-Ok-clause-done g c =
    done_put _ _ (misses_text c.args.misses.now.found) c.args.outcome (put_whole _ _ (misses_text c.args.misses.now.found ++ outcome_line c.args.outcome) _ c.in-Ok.ensures)

pub returns-in-Err-clause-done : goal.returns-in-Err-clause-done
returns-in-Err-clause-done g c =
    done_lost c.put_law.ensures.parts _ _ _ (misses_text c.args.misses.now.found) c.args.outcome c.after_loss.result
    (put_part _ _ (misses_text c.args.misses.now.found ++ outcome_line c.args.outcome) _ c.in-Err.ensures) c.after_loss.ensures.done c.after_loss.ensures.done_line
