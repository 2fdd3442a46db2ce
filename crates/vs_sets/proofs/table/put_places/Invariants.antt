use Rattle.std.proofs.Common.{◌≡◌, drop}
use Rattle.vs_design.specs.LiftedBodies.{put_each}
use Rattle.vs_sets.specs.Tables.{family_of, bits_from}
use Rattle.vs_sets.proofs.table.put_places.Given as goal

abbrev pub invariant-loop-k : goal.invariant-loop-k
invariant-loop-k l =
    put_each (bits_from l.first (drop l.k l.places)) (drop l.k l.sets) (family_of l.table)
    ≡ put_each (bits_from l.first l.places) l.sets (family_of l.initial.table)
