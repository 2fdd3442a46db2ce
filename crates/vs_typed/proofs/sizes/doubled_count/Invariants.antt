use Rattle.std.proofs.Common.{◌≡◌, take}
use Rattle.vs_design.specs.Races.{doubled_bits}
use Rattle.vs_flat.specs.DesignOf.{design_of}
use Rattle.vs_typed.proofs.sizes.doubled_count.Given as goal

abbrev pub invariant-loop-p : goal.invariant-loop-p
invariant-loop-p l = l.bits.items ≡ doubled_bits (take l.p (design_of l.shapes).processes)
