use Rattle.std.proofs.Common.{◌≡◌, ◌++◌, drop}
use Rattle.vs_design.specs.Footprints.{somes}
use Rattle.vs_shape.specs.Gathered.{bits_from}
use Rattle.vs_shape.proofs.bits.push_places.Given as goal

-- what was added, with the bits at the places that are left
abbrev pub invariant-loop-k : goal.invariant-loop-k
invariant-loop-k l = l.out.items ++ somes (bits_from l.first (drop l.k l.places)) ≡ l.initial.out.items ++ somes (bits_from l.first l.places)
