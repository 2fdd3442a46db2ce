use Rattle.std.proofs.Common.{arith, bit_xor}
use Rattle.vs_plane.specs.Bits.{differ}
use Rattle.vs_plane.proofs.WordBits.{lanes_by, place_within, xor_is}
use Rattle.vs_plane.proofs.arrays.WordsWord.xor.Goals as goal

pub returns : goal.returns
returns g c i h =
    lanes_by bit_xor differ xor_is _ _ _ c.loop-k.k c.loop-k.invariant.done i
    (omega (arith, place_within g.row.K i h))
