-- One bit of the lifted `?:`, by the truth set of its condition (IEEE 1364-2005, 5.1.13).
use Rattle.std.specs.Prelude.{◌||◌}
use Rattle.vs_four.specs.Tables.{merge_bit}
use Rattle.vs_design.specs.Sets.{Set4, union, when, image2}

abbrev pub chosen : Set4 → Set4 → Set4 → Set4
chosen c p q = union (when c.one? p) (union (when c.zero? q) (when (c.x? || c.z?) (image2 merge_bit p q)))
