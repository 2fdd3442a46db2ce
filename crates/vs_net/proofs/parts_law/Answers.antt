-- Each kind of process has its parts of the state.
use Rattle.vs_net.proofs.KindParts.{each_has_its_parts}
use Rattle.vs_net.proofs.parts_law.Goals as goal

pub returns : goal.returns
returns c = each_has_its_parts
