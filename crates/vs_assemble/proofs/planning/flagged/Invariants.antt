use Rattle.std.proofs.Common.{◌≡◌, List, ℕ}
use Rattle.vs_design.specs.Footprints.{ascending}
use Rattle.vs_assemble.specs.Flags.{AreFlags}
use Rattle.vs_assemble.proofs.planning.flagged.Given as goal

-- the numbers so far
abbrev pub invariant-loop-n : goal.invariant-loop-n
invariant-loop-n l = (set : List ℕ) → AreFlags l.flags set → l.numbers.items ≡ ascending l.n set
