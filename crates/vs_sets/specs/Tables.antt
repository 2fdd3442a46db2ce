-- A table of sets, one for each bit of the design by number.
use Rattle.std.specs.Prelude.{◌≡◌, ◌<◌, ℕ, List, length, slice_index_or}
use Rattle.vs_four.specs.declared.Bit4.TheVariants.{X}
use Rattle.vs_design.specs.Sets.{Set4, only, known_set}
use Rattle.vs_design.specs.Lifted.{Family}
pub use Rattle.vs_shape.specs.Gathered.{bits_from}

-- what a number has that no bit of the design has
abbrev pub beyond : Set4
beyond = only X

abbrev pub family_of : List Set4 → Family
family_of table b = slice_index_or table b beyond

-- all bits in the table are 0 or 1
abbrev pub known_of : List Set4 → Type 0
known_of table = (b : ℕ) → b < length table → family_of table b ≡ known_set
