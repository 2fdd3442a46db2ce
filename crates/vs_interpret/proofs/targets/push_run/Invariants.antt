use Rattle.std.proofs.Common.{◌≡◌, ◌+◌, ◌-◌, ◌++◌, length, drop, map, Some}
use Rattle.vs_design.specs.Effects.{pair_up}
use Rattle.vs_design.specs.Values.{count_from}
use Rattle.vs_interpret.proofs.targets.push_run.Given as goal

abbrev pub invariant-loop-k : goal.invariant-loop-k
invariant-loop-k l = l.out ++ pair_up (map Some (count_from (l.first + l.k) (length l.value - l.k))) (drop l.k l.value) ≡ l.initial.out ++ pair_up (map Some (count_from l.first (length l.value))) l.value
