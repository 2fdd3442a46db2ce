-- The sets of the parts of a concatenation.
use Rattle.std.specs.Prelude.{List, [], ◌∷◌, ◌++◌}
use Rattle.vs_design.specs.Expressions.{Expression}
use Rattle.vs_design.specs.Sets.{Set4}
use Rattle.vs_design.specs.Lifted.{Family, own_sets}

-- the first part is the most significant (5.1.14)
abbrev pub part_sets : List Expression → Family → List Set4
part_sets [] sets = []
part_sets (e ∷ es) sets = part_sets es sets ++ own_sets e sets
