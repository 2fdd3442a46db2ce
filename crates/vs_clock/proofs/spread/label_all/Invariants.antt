use Rattle.std.proofs.Common.{take}
use Rattle.vs_clock.specs.Spread.{Labels}
use Rattle.vs_clock.proofs.spread.label_all.Given as goal

abbrev pub invariant-loop-bit : goal.invariant-loop-bit
invariant-loop-bit l = Labels (take l.bit-index l.bits) l.root l.fn.labels l.labels l.fn.pending.items l.pending.items
