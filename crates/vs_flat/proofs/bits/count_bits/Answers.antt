use Rattle.std.proofs.Common.{arith}
use Rattle.vs_flat.proofs.BitCounts.{bits_more, bits_within}
use Rattle.vs_flat.proofs.bits.count_bits.Goals as goal

pub bits_of-count-requires : goal.bits_of-count-requires
bits_of-count-requires c = let h = bits_within c.args.flat.now.signals c.loop-n.n c.signal.result.now c.signal.ensures c.signal_count-n-end.ensures.bits in omega (arith, h)

pub overflow_add-count : goal.overflow_add-count
overflow_add-count c = let h = bits_within c.args.flat.now.signals c.loop-n.n c.signal.result.now c.signal.ensures c.signal_count-n-end.ensures.bits in omega (arith, h, c.loop-n.invariant, c.bits_of-count.ensures)

pub loop-n-preserved : goal.loop-n-preserved
loop-n-preserved c = let h = bits_more c.args.flat.now.signals c.loop-n.n c.signal.result.now c.signal.ensures in omega (arith, h, c.loop-n.invariant, c.bits_of-count.ensures)
