use Rattle.std.proofs.Common.{◌≡◌, length, map, take}
use Rattle.vs_four.specs.declared.Bit4.TheVariants.{X}
use Rattle.vs_design.specs.Designs.{bit_count}
use Rattle.vs_design.specs.Sets.{only}
use Rattle.vs_design.specs.Sleepers.{is_sleeping}
use Rattle.vs_flat.specs.DesignOf.{design_of}
use Rattle.vs_sets.specs.Tables.{family_of}
use Rattle.vs_sets.proofs.sleepers.sleeping.Given as goal

abbrev pub invariant-loop-p : goal.invariant-loop-p
invariant-loop-p l =
    (length l.table.items ≡ bit_count (design_of l.shapes)) × (family_of l.table.items ≡ (λ c. only X)) × (l.flags.items ≡ map (is_sleeping (design_of l.shapes)) (take l.p (design_of l.shapes).processes))
