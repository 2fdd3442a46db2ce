use Rattle.vs_plane.proofs.WordBits.{lanes_all, place_within}
use Rattle.vs_plane.proofs.arrays.WordsWord.all.Goals as goal

pub returns : goal.returns
returns g c i h = lanes_all g.row.K i (place_within g.row.K i h)
