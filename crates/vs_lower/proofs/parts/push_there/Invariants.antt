use Rattle.std.proofs.Common.{◌≡◌, ◌++◌, take}
use Rattle.vs_lower.specs.Parts.{bits_there}
use Rattle.vs_lower.proofs.parts.push_there.Given as goal

abbrev pub invariant-loop-k : goal.invariant-loop-k
invariant-loop-k l = l.out.items ≡ l.initial.out.items ++ bits_there l.first (take l.k l.places)
