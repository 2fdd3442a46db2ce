use Rattle.std.proofs.Common.{[]}
use Rattle.vs_top.specs.Outcomes.{outcome_line}
use Rattle.vs_top.proofs.Losing.{put_part, done_lost}
use Rattle.vs_top.proofs.report_line.report.Goals as goal

pub returns-in-Err-clause-done : goal.returns-in-Err-clause-done
returns-in-Err-clause-done g c =
    done_lost c.put_law.ensures.parts _ _ _ [] c.args.outcome c.after_loss.result (put_part _ _ (outcome_line c.args.outcome) _ c.in-Err.ensures) c.after_loss.ensures.done c.after_loss.ensures.done_line
