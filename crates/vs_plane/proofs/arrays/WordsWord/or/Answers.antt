use Rattle.std.proofs.Common.{arith, bit_or, ◌||◌}
use Rattle.vs_plane.proofs.WordBits.{lanes_by, place_within, or_is}
use Rattle.vs_plane.proofs.arrays.WordsWord.or.Goals as goal

pub returns : goal.returns
returns g c i h =
    lanes_by bit_or (λ a b. a || b) or_is _ _ _ c.loop-k.k c.loop-k.invariant.done i
    (omega (arith, place_within g.row.K i h))
