use Rattle.std.proofs.Common.{arith}
use Rattle.vs_flat.proofs.Signals.{length≤bit_count}
use Rattle.vs_flat.proofs.flat.Flat.signal_count.Goals as goal

pub overflow_cast-result : goal.overflow_cast-result
overflow_cast-result c = omega (arith, length≤bit_count c.self.inside.signals.items, c.self.invariant.limits.bits)
