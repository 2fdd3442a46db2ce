use Rattle.std.proofs.Common.{arith}
use Rattle.vs_plane.proofs.WordBits.{lanes_not, place_within}
use Rattle.vs_plane.proofs.arrays.WordsWord.not.Goals as goal

pub returns : goal.returns
returns g c i h =
    lanes_not _ _ c.loop-k.k c.loop-k.invariant.done c.loop-k.invariant.fits i
    (omega (arith, place_within g.row.K i h))
