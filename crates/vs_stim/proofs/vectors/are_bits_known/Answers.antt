use Rattle.vs_stim.proofs.Known.{bits_known}
use Rattle.vs_stim.proofs.vectors.are_bits_known.Goals as goal

pub returns : goal.returns
returns c = bits_known _ _ _ _ c.planes-unknown.ensures.vector c.planes-unknown.ensures.unknown_below
