use Rattle.vs_plane.proofs.Filling.{filling}
use Rattle.vs_plane.proofs.filling_law.Goals as goal

pub returns : goal.returns
returns g c = filling g.W.Word.lane g.W.Word.LANES
