use Rattle.std.proofs.Common.{◌≡◌, ◌++◌, drop}
use Rattle.vs_design.specs.Bodies.{last_of_each}
use Rattle.vs_writes.proofs.writes.last_of_each.Given as goal

abbrev pub invariant-loop-n : goal.invariant-loop-n
invariant-loop-n l = l.kept ++ last_of_each (drop l.n l.writes) ≡ last_of_each l.writes
