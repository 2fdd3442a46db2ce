use Rattle.std.proofs.Common.{◌≡◌, length}
use Rattle.vs_design.specs.Designs.{bit_count}
use Rattle.vs_flat.specs.DesignOf.{design_of}
use Rattle.vs_level.specs.Feeders.{AreWriters}
use Rattle.vs_level.proofs.feeders.writers_of.Given as goal

abbrev pub invariant-loop-p : goal.invariant-loop-p
invariant-loop-p l = (length l.writers ≡ bit_count (design_of l.flat)) × AreWriters (design_of l.flat) l.p l.writers
