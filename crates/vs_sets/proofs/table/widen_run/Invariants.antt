use Rattle.std.proofs.Common.{◌≡◌, ◌-◌}
use Rattle.vs_design.specs.LiftedBodies.{widen}
use Rattle.vs_design.specs.Values.{count_from}
use Rattle.vs_sets.specs.Tables.{family_of}
use Rattle.vs_sets.proofs.table.widen_run.Given as goal

abbrev pub invariant-loop-bit : goal.invariant-loop-bit
invariant-loop-bit l = family_of l.table ≡ widen (count_from l.first (l.bit - l.first)) l.set (family_of l.initial.table)
