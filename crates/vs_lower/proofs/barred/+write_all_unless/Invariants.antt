use Rattle.std.proofs.Common.{length}
use Rattle.vs_lower.proofs.barred.+write_all_unless.Given as goal

abbrev pub decreases-write_all_unless : goal.decreases-write_all_unless
decreases-write_all_unless l = length l.leaves.now
