use Rattle.vs_design.proofs.CycleFound.{order_or_cycle}
use Rattle.vs_design.proofs.OrderFacts.{level_order_is}
use Rattle.vs_design.proofs.cycle_law.Goals as goal

pub returns : goal.returns
returns c = record { order = level_order_is; cycle = order_or_cycle }
