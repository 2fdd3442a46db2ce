use Rattle.std.proofs.Common.{◌≡◌, length, take}
use Rattle.vs_level.proofs.Growing.{AreNoted}
use Rattle.vs_level.proofs.feeders.add_writer.Given as goal

abbrev pub invariant-loop-bit : goal.invariant-loop-bit
invariant-loop-bit l = (length l.writers ≡ length l.fn.writers) × AreNoted l.fn.writers l.writers (take l.bit-index l.bits) l.p
