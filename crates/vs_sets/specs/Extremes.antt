-- The least and the greatest index that members of sets give, in one.
use Rattle.std.specs.Prelude.{Bool, true, false, List, not, if◌then◌else◌}
use Rattle.vs_four.specs.declared.Bit4.{Bit4}
use Rattle.vs_four.specs.declared.Bit4.TheVariants.{Zero, One}
use Rattle.vs_four.specs.Logic.{BitList}
use Rattle.vs_design.specs.Sets.{Set4}
use Rattle.vs_design.specs.Lifted.{least_bits, greatest_bits}

abbrev pub extreme_bit : Bool → Set4 → Bit4
extreme_bit true s = if s.one? then One else Zero
extreme_bit false s = if s.zero? then Zero else One

abbrev pub extreme_bits : Bool → Bool → List Set4 → BitList
extreme_bits true signed ss = greatest_bits signed ss
extreme_bits false signed ss = least_bits signed ss

-- whether the greatest bit gives the wanted index; the top bit of a signed index counts down
abbrev pub counts_up : Bool → Bool → Bool
counts_up greatest down = if down then not greatest else greatest
