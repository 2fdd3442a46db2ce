use Rattle.std.proofs.Common.{◌≡◌, ◌++◌, drop, map}
use Rattle.vs_design.specs.Sets.{variable}
use Rattle.vs_sets.proofs.words.variable_each.Given as goal

abbrev pub invariant-loop-set : goal.invariant-loop-set
invariant-loop-set l = l.list ++ map (variable l.index l.sure) (drop l.set-index l.sets) ≡ map (variable l.index l.sure) l.sets
