use Rattle.vs_design.proofs.Lawful.{every_order_of}
use Rattle.vs_design.proofs.order_law.Goals as goal

pub returns : goal.returns
returns c = every_order_of
