use Rattle.vs_queue.proofs.Wirings.{design_is_wired}
use Rattle.vs_queue.proofs.laws.listeners_law.Goals as goal

pub returns : goal.returns
returns c = design_is_wired c.wiring_law.ensures c.footprint_law.ensures.bits c.footprint_law.ensures.ascending c.within_law.ensures.expressions
