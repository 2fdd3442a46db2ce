use Rattle.std.proofs.Common.{◌≡◌, drop}
use Rattle.std.specs.List.{list_any}
use Rattle.vs_sets.specs.Tables.{family_of}
use Rattle.vs_zero.specs.Blocks.{may_wake}
use Rattle.vs_zero.proofs.process.wakes.Given as goal

abbrev pub invariant-loop-bit : goal.invariant-loop-bit
invariant-loop-bit l = list_any (may_wake (family_of l.early) (family_of l.late)) (drop l.bit-index l.waits) ≡ list_any (may_wake (family_of l.early) (family_of l.late)) l.waits
