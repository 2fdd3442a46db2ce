use Rattle.std.proofs.Common.{take}
use Rattle.vs_driver.proofs.Counting.{AreNoted}
use Rattle.vs_driver.proofs.table.note.Given as goal

abbrev pub invariant-loop-bit : goal.invariant-loop-bit
invariant-loop-bit l = AreNoted l.fn.table l.table (take l.bit-index l.bits) l.p
