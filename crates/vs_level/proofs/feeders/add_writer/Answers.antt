use Rattle.std.proofs.Common.{◌<◌, get_or, subst, sym}
use Rattle.vs_reads.proofs.Tests.{member_at}
use Rattle.vs_level.proofs.feeders.add_writer.Goals as goal

pub add-requires : goal.add-requires
add-requires c = subst (λ m. get_or c.args.bits.now c.loop-bit.bit-index 0 < m) (sym c.loop-bit.invariant.0) (c.requires _ (member_at c.args.bits.now c.loop-bit.bit-index c.loop-bit-test.true))
