use Rattle.std.proofs.Common.{◌≡◌, take}
use Rattle.vs_four.specs.declared.Bit4.TheVariants.{X}
use Rattle.vs_design.specs.LiftedBodies.{either}
use Rattle.vs_design.specs.Sets.{only}
use Rattle.vs_sets.specs.Tables.{family_of}
use Rattle.vs_sets.specs.Branches.{replaced}
use Rattle.vs_zero.proofs.bits.add_x.Given as goal

abbrev pub invariant-loop-i : goal.invariant-loop-i
invariant-loop-i l = family_of l.table ≡ replaced (take l.i l.bits) (either (λ b. only X) (family_of l.initial.table)) (family_of l.initial.table)
