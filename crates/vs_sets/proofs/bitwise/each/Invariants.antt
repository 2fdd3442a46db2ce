use Rattle.std.proofs.Common.{◌≡◌, ◌++◌, drop}
use Rattle.vs_four.specs.Logic.{map2}
use Rattle.vs_design.specs.Sets.{image2}
use Rattle.vs_sets.specs.BitOperators.{operator_of}
use Rattle.vs_sets.proofs.bitwise.each.Given as goal

abbrev pub invariant-loop-i : goal.invariant-loop-i
invariant-loop-i l = l.list ++ map2 (image2 (operator_of l.operator)) (drop l.i l.a) (drop l.i l.b) ≡ map2 (image2 (operator_of l.operator)) l.a l.b
