use Rattle.std.proofs.Common.{◌≡◌, take}
use Rattle.vs_sets.specs.Branches.{replaced}
use Rattle.vs_sets.specs.Tables.{family_of}
use Rattle.vs_zero.specs.States.{state_of}
use Rattle.vs_zero.specs.Values.{joined}
use Rattle.vs_zero.proofs.values.join.Given as goal

abbrev pub invariant-loop-i : goal.invariant-loop-i
invariant-loop-i l = family_of l.table ≡ replaced (take l.i l.bits) (λ b. joined (state_of l.from_x b) (state_of l.from_zero b) (family_of l.initial.table b)) (family_of l.initial.table)
