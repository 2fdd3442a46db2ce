use Rattle.std.proofs.Common.{length}
use Rattle.vs_values.proofs.products.+copies.Given as goal

abbrev pub decreases-copies : goal.decreases-copies
decreases-copies l = length l.c.now
