use Rattle.std.proofs.Common.{◌≡◌, ◌++◌, drop}
use Rattle.vs_four.specs.Logic.{map2}
use Rattle.vs_sets.specs.Choosing.{chosen}
use Rattle.vs_sets.proofs.bitwise.set_choose.Given as goal

abbrev pub invariant-loop-i : goal.invariant-loop-i
invariant-loop-i l = l.list ++ map2 (chosen l.condition) (drop l.i l.p) (drop l.i l.q) ≡ map2 (chosen l.condition) l.p l.q
