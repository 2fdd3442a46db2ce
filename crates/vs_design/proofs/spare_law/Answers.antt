use Rattle.vs_design.proofs.SpareLaws.{spare_clock_is}
use Rattle.vs_design.proofs.spare_law.Goals as goal

pub returns : goal.returns
returns c = spare_clock_is
