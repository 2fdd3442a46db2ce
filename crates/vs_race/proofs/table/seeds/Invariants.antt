use Rattle.vs_flat.specs.DesignOf.{design_of}
use Rattle.vs_race.specs.Stirrers.{IsSeeded}
use Rattle.vs_race.proofs.table.seeds.Given as goal

abbrev pub invariant-loop-p : goal.invariant-loop-p
invariant-loop-p l = IsSeeded (design_of l.typed) l.p l.table.items
