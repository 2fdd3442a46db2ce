use Rattle.std.proofs.Common.{length}
use Rattle.vs_lower.proofs.writes.+write_leaves.Given as goal

abbrev pub decreases-write_leaves : goal.decreases-write_leaves
decreases-write_leaves l = length l.leaves.now
