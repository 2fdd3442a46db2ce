use Rattle.std.proofs.Common.{arith, bit_and, ◌&&◌}
use Rattle.vs_plane.proofs.WordBits.{lanes_by, place_within, and_is}
use Rattle.vs_plane.proofs.arrays.WordsWord.and.Goals as goal

pub returns : goal.returns
returns g c i h =
    lanes_by bit_and (λ a b. a && b) and_is _ _ _ c.loop-k.k c.loop-k.invariant.done i
    (omega (arith, place_within g.row.K i h))
