use Rattle.vs_refusal.proofs.Chained.{put_nothing}
use Rattle.vs_top.proofs.verdicts.put_lane.Goals as goal

pub returns-in-Some : goal.returns-in-Some
returns-in-Some g c = rw c.in-Some.ensures c.put_finding.ensures

pub returns-in-None : goal.returns-in-None
returns-in-None g c = rw c.in-None.ensures (put_nothing c.put_law.ensures.nothing _ _)
