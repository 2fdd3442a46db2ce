use Rattle.std.proofs.Common.{◌≡◌, ◌++◌, drop, map}
use Rattle.vs_four.specs.Tables.{not_bit}
use Rattle.vs_design.specs.Sets.{image}
use Rattle.vs_sets.proofs.bitwise.not_each.Given as goal

abbrev pub invariant-loop-set : goal.invariant-loop-set
invariant-loop-set l = l.list ++ map (image not_bit) (drop l.set-index l.sets) ≡ map (image not_bit) l.sets
