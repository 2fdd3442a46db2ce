use Rattle.std.proofs.Common.{take}
use Rattle.vs_block.specs.Flags.{AreNoted}
use Rattle.vs_block.proofs.flags.note_reads.Given as goal

abbrev pub invariant-loop-bit : goal.invariant-loop-bit
invariant-loop-bit l = AreNoted l.own (take l.bit-index l.bits) l.assigned l.initial.early l.early
