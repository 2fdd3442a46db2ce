use Rattle.std.proofs.Common.{◌≡◌, ◌+◌, ◌-◌, length, drop, map, Some}
use Rattle.vs_design.specs.LiftedBodies.{put_each}
use Rattle.vs_design.specs.Values.{count_from}
use Rattle.vs_sets.specs.Tables.{family_of}
use Rattle.vs_sets.proofs.table.put_run.Given as goal

abbrev pub invariant-loop-k : goal.invariant-loop-k
invariant-loop-k l =
    put_each (map Some (count_from (l.first + l.k) (length l.sets - l.k))) (drop l.k l.sets) (family_of l.table)
    ≡ put_each (map Some (count_from l.first (length l.sets))) l.sets (family_of l.initial.table)
