-- How an operator comes by its sets, as in the design's definitions.
use Rattle.vs_design.specs.Lifted as L
use Rattle.vs_sets.specs.declared.lifts.Lift.{Lift}
use Rattle.vs_sets.specs.declared.lifts.Lift.TheVariants as K

abbrev pub lift_of : Lift → L.Lift
lift_of K.FromSets = L.FromSets
lift_of K.Moved = L.Moved
lift_of K.Divided = L.Divided
