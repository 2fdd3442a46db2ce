use Rattle.std.proofs.Common.{take}
use Rattle.vs_race.proofs.Noting.{IsNoted}
use Rattle.vs_race.proofs.table.note.Given as goal

abbrev pub invariant-loop-bit : goal.invariant-loop-bit
invariant-loop-bit l = IsNoted l.fn.table l.table (take l.bit-index l.bits) l.stirrer
