use Rattle.std.proofs.Common.{arith}
use Rattle.vs_flat.proofs.Signals.{word≤signal_length}
use Rattle.vs_flat.proofs.bits.bits_of.Goals as goal

pub length_of-requires : goal.length_of-requires
length_of-requires c = omega (arith, word≤signal_length c.args.signal.now, c.requires)
