use Rattle.std.proofs.Common.{◌≡◌, length}
use Rattle.vs_design.specs.Designs.{bit_count}
use Rattle.vs_design.specs.Footprints.{contains}
use Rattle.vs_flat.specs.DesignOf.{design_of}
use Rattle.vs_sets.specs.Flags.{AreFlags, variables_before}
use Rattle.vs_sets.proofs.flags.variable_flags.Given as goal

abbrev pub invariant-loop-n : goal.invariant-loop-n
invariant-loop-n l = (length l.flags.items ≡ bit_count (design_of l.shapes)) × AreFlags (contains (variables_before (design_of l.shapes).signals l.n)) l.flags.items
