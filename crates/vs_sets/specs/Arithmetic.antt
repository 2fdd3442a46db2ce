-- Each bit of a lifted arithmetic operator, by what is known of its operands' bits.
use Rattle.std.specs.Prelude.{Bool, if◌then◌else◌}
use Rattle.vs_four.specs.declared.Bit4.TheVariants.{X}
use Rattle.vs_design.specs.Sets.{Set4, only, known_set, any_result}

abbrev pub arithmetic_of : Bool → Bool → Set4
arithmetic_of unknown known = if unknown then only X else (if known then known_set else any_result)
