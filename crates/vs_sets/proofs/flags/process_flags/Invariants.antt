use Rattle.std.proofs.Common.{◌≡◌, length}
use Rattle.vs_design.specs.Designs.{bit_count}
use Rattle.vs_flat.specs.DesignOf.{design_of}
use Rattle.vs_sets.specs.Flags.{AreFlags, still_before}
use Rattle.vs_sets.proofs.flags.process_flags.Given as goal

abbrev pub invariant-loop-p : goal.invariant-loop-p
invariant-loop-p l = (length l.flags.items ≡ bit_count (design_of l.shapes)) × AreFlags (still_before (design_of l.shapes) l.p) l.flags.items
