use Rattle.std.proofs.Common.{◌≡◌, ◌++◌, drop}
use Rattle.vs_design.specs.Effects.{pair_up}
use Rattle.vs_shape.specs.Gathered.{bits_from}
use Rattle.vs_interpret.proofs.targets.push_places.Given as goal

abbrev pub invariant-loop-k : goal.invariant-loop-k
invariant-loop-k l = l.out ++ pair_up (bits_from l.first (drop l.k l.places)) (drop l.k l.value) ≡ l.initial.out ++ pair_up (bits_from l.first l.places) l.value
