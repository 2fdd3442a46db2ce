use Rattle.std.proofs.Common.{◌≡◌, ◌-◌}
use Rattle.vs_design.specs.Values.{count_from}
use Rattle.vs_sets.specs.Branches.{replaced}
use Rattle.vs_sets.specs.Tables.{family_of}
use Rattle.vs_zero.proofs.sources.fill_run.Given as goal

abbrev pub invariant-loop-bit : goal.invariant-loop-bit
invariant-loop-bit l = family_of l.table ≡ replaced (count_from l.first (l.bit - l.first)) (λ b. l.set) (family_of l.initial.table)
