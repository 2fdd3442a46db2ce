use Rattle.vs_reads.proofs.Tests.{member_at}
use Rattle.vs_level.proofs.feeders.add_feeders.Goals as goal

pub of-requires : goal.of-requires
of-requires c = c.requires _ (member_at c.args.bits.now c.loop-bit.bit-index c.loop-bit-test.true)
