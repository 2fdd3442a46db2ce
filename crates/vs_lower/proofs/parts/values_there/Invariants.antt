use Rattle.std.proofs.Common.{◌≡◌, take}
use Rattle.vs_lower.specs.Parts.{those_there}
use Rattle.vs_lower.proofs.parts.values_there.Given as goal

abbrev pub invariant-loop-k : goal.invariant-loop-k
invariant-loop-k l = l.to.items ≡ those_there (take l.k l.places) (take l.k l.value)
