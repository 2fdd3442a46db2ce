use Rattle.std.proofs.Common.{◌≡◌, ◌++◌, take}
use Rattle.std.specs.Prelude.{filter}
use Rattle.vs_design.specs.Footprints.{is_stored, signals_bits}
use Rattle.vs_flat.specs.DesignOf.{design_of}
use Rattle.vs_typed.proofs.words.push_memories.Given as goal

abbrev pub invariant-loop-n : goal.invariant-loop-n
invariant-loop-n l = l.bits.items ≡ l.initial.bits.items ++ signals_bits (filter is_stored (take l.n (design_of l.shapes).signals))
