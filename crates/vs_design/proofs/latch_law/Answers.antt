use Rattle.vs_design.proofs.OpenPaths.{latch_bits_are}
use Rattle.vs_design.proofs.latch_law.Goals as goal

pub returns : goal.returns
returns c = latch_bits_are
