use Rattle.std.proofs.Common.{◌≡◌, take}
use Rattle.vs_sets.specs.Tables.{family_of}
use Rattle.vs_sets.specs.Branches.{replaced}
use Rattle.vs_sets.proofs.table.fill.Given as goal

abbrev pub invariant-loop-i : goal.invariant-loop-i
invariant-loop-i l = family_of l.table ≡ replaced (take l.i l.bits) (λ b. l.set) (family_of l.initial.table)
