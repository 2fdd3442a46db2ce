use Rattle.std.proofs.Common.{take}
use Rattle.vs_block.specs.Flags.{AreFlagged}
use Rattle.vs_block.proofs.flags.flagged.Given as goal

abbrev pub invariant-loop-bit : goal.invariant-loop-bit
invariant-loop-bit l = AreFlagged l.own (take l.bit-index l.bits) l.flags l.flag l.found.items
