use Rattle.std.proofs.Common.{◌≡◌, length}
use Rattle.vs_design.specs.Designs.{bit_count}
use Rattle.vs_flat.specs.DesignOf.{design_of}
use Rattle.vs_sets.specs.Flags.{AreFlags, still_behind}
use Rattle.vs_sets.proofs.flags.still_flags.Given as goal

abbrev pub invariant-loop-k : goal.invariant-loop-k
invariant-loop-k l = (length l.flags.items ≡ bit_count (design_of l.shapes)) × AreFlags (still_behind (design_of l.shapes) l.k) l.flags.items
