use Rattle.std.proofs.Common.{◌≡◌, map, take}
use Rattle.vs_four.specs.Selects.{at_place}
use Rattle.vs_values.proofs.selects.selected.Given as goal

abbrev pub invariant-loop-k : goal.invariant-loop-k
invariant-loop-k l = l.to.items ≡ map (at_place 2 l.from) (take l.k l.places)
