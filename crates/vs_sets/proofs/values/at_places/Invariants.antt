use Rattle.std.proofs.Common.{◌≡◌, ◌++◌, drop, map}
use Rattle.vs_four.specs.declared.Bit4.TheVariants.{X}
use Rattle.vs_four.specs.Selects.{at_place}
use Rattle.vs_design.specs.Sets.{only}
use Rattle.vs_sets.proofs.values.at_places.Given as goal

abbrev pub invariant-loop-k : goal.invariant-loop-k
invariant-loop-k l = l.list ++ map (at_place (only X) l.sets) (drop l.k l.places) ≡ map (at_place (only X) l.sets) l.places
