use Rattle.std.proofs.Common.{◌≡◌, List, ℕ, ◌++◌, length, take}
use Rattle.vs_assemble.specs.Flags.{AreFlags}
use Rattle.vs_assemble.proofs.cones.set_all.Given as goal

-- the flags of the first bits are set
abbrev pub invariant-loop-bit : goal.invariant-loop-bit
invariant-loop-bit l = record {
  count : length l.flags ≡ length l.initial.flags;
  set : (set : List ℕ) → AreFlags l.initial.flags set → AreFlags l.flags (take l.bit-index l.bits ++ set);
}
