use Rattle.std.proofs.Common.{◌≡◌, List, ℕ, drop}
use Rattle.std.specs.List.{list_any}
use Rattle.vs_design.specs.Footprints.{contains}
use Rattle.vs_assemble.specs.Flags.{AreFlags}
use Rattle.vs_assemble.proofs.cones.is_set.Given as goal

-- none of the first bits has its flag set
abbrev pub invariant-loop-bit : goal.invariant-loop-bit
invariant-loop-bit l = (set : List ℕ) → AreFlags l.flags set → list_any (contains set) (drop l.bit-index l.bits) ≡ list_any (contains set) l.bits
