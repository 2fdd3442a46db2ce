use Rattle.std.proofs.Common.{◌≡◌, take, map}
use Rattle.vs_design.specs.Lifted.{Family}
use Rattle.vs_design.specs.LiftedBodies.{either}
use Rattle.vs_sets.specs.Tables.{family_of}
use Rattle.vs_sets.specs.Branches.{replaced}
use Rattle.vs_sets.proofs.branches.unite.Given as goal

abbrev pub invariant-loop-i : goal.invariant-loop-i
invariant-loop-i l = (other : Family) → l.sets ≡ map other l.bits → family_of l.table ≡ replaced (take l.i l.bits) (either other (family_of l.initial.table)) (family_of l.initial.table)
