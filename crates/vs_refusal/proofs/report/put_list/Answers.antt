use Rattle.std.proofs.Common.{codes}
use Rattle.vs_refusal.specs.Refusals.{numbers_text}
use Rattle.vs_refusal.proofs.Chained.{put_then, failed_before}
use Rattle.vs_refusal.proofs.report.put_list.Goals as goal

pub returns-in_err-put_text-in-Cycle : goal.returns-in_err-put_text-in-Cycle
returns-in_err-put_text-in-Cycle g c = rw c.in-Cycle.is (failed_before _ _ (codes " processes=") (numbers_text c.in-Cycle.processes) _ _ c.from_residual.ensures.0 c.in_err-put_text-in-Cycle.ensures)

pub returns-in_ok-put_text-in-Cycle : goal.returns-in_ok-put_text-in-Cycle
returns-in_ok-put_text-in-Cycle g c = rw c.in-Cycle.is (put_then c.put_law.ensures.parts _ _ _ (codes " processes=") _ _ _ c.in_ok-put_text-in-Cycle.ensures (rw (← c.numbers.ensures) c.put_numbers.ensures))
