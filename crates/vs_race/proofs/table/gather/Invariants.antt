use Rattle.std.proofs.Common.{take}
use Rattle.vs_race.proofs.Noting.{IsGathered}
use Rattle.vs_race.proofs.table.gather.Given as goal

abbrev pub invariant-loop-bit : goal.invariant-loop-bit
invariant-loop-bit l = IsGathered l.table (take l.bit-index l.bits) l.fn.before l.all
