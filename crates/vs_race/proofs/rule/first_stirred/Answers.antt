use Rattle.vs_reads.proofs.Tests.{member_at}
use Rattle.vs_race.proofs.rule.first_stirred.Goals as goal

pub bounds-table-bit : goal.bounds-table-bit
bounds-table-bit c = c.requires _ (member_at c.args.bits.now c.loop-bit.bit-index c.loop-bit-test.true)
