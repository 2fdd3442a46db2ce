use Rattle.std.proofs.Common.{take}
use Rattle.vs_flat.specs.DesignOf.{design_of}
use Rattle.vs_race.specs.Stirrers.{IsTableOf}
use Rattle.vs_race.proofs.table.table_of.Given as goal

abbrev pub invariant-loop-p : goal.invariant-loop-p
invariant-loop-p l = IsTableOf (design_of l.typed) (take l.p-index l.p-items) l.table.items
