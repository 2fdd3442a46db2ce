use Rattle.std.proofs.Common.{take}
use Rattle.vs_block.specs.Flags.{AreSet}
use Rattle.vs_block.proofs.flags.set_flags.Given as goal

abbrev pub invariant-loop-bit : goal.invariant-loop-bit
invariant-loop-bit l = AreSet l.own (take l.bit-index l.bits) l.to l.initial.flags l.flags
