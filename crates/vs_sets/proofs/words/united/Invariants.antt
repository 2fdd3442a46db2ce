use Rattle.std.proofs.Common.{◌≡◌, ◌++◌, drop}
use Rattle.vs_four.specs.Logic.{map2}
use Rattle.vs_design.specs.Sets.{union}
use Rattle.vs_sets.proofs.words.united.Given as goal

abbrev pub invariant-loop-i : goal.invariant-loop-i
invariant-loop-i l = l.list ++ map2 union (drop l.i l.a) (drop l.i l.b) ≡ map2 union l.a l.b
