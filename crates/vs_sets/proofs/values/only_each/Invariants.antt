use Rattle.std.proofs.Common.{◌≡◌, ◌++◌, drop, map}
use Rattle.vs_design.specs.Sets.{only}
use Rattle.vs_sets.proofs.values.only_each.Given as goal

abbrev pub invariant-loop-n : goal.invariant-loop-n
invariant-loop-n l = l.list ++ map only (drop l.n l.bits) ≡ map only l.bits
