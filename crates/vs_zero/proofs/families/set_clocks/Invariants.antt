use Rattle.std.proofs.Common.{◌≡◌, length, take}
use Rattle.vs_sets.specs.Tables.{family_of}
use Rattle.vs_zero.specs.Sources.{with_clocks}
use Rattle.vs_zero.proofs.families.set_clocks.Given as goal

abbrev pub invariant-loop-k : goal.invariant-loop-k
invariant-loop-k l = (length l.table ≡ length l.initial.table) × (family_of l.table ≡ with_clocks (take l.k l.clocks) (length l.initial.table) (family_of l.initial.table))
