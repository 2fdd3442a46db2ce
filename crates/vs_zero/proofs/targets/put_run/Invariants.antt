use Rattle.std.proofs.Common.{◌≡◌, ◌+◌, ◌-◌, length, drop, map, Some}
use Rattle.vs_design.specs.Values.{count_from}
use Rattle.vs_zero.specs.States.{state_of, written}
use Rattle.vs_zero.proofs.targets.put_run.Given as goal

abbrev pub invariant-loop-k : goal.invariant-loop-k
invariant-loop-k l =
    written (map Some (count_from (l.first + l.k) (length l.value - l.k))) (drop l.k l.value) (state_of l.state)
    ≡ written (map Some (count_from l.first (length l.value))) l.value (state_of l.initial.state)
