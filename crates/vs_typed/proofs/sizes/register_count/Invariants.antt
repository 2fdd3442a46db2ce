use Rattle.std.proofs.Common.{◌≡◌, take}
use Rattle.vs_design.specs.Sizes.{register_bits}
use Rattle.vs_flat.specs.DesignOf.{design_of}
use Rattle.vs_typed.proofs.sizes.register_count.Given as goal

abbrev pub invariant-loop-p : goal.invariant-loop-p
invariant-loop-p l = l.bits.items ≡ register_bits (take l.p (design_of l.shapes).processes)
