use Rattle.std.proofs.Common.{◌≡◌, drop}
use Rattle.std.specs.List.{list_all}
use Rattle.vs_sets.specs.Flags.{flag_at}
use Rattle.vs_sets.proofs.flags.are_set.Given as goal

abbrev pub invariant-loop-bit : goal.invariant-loop-bit
invariant-loop-bit l = list_all (flag_at l.flags) (drop l.bit-index l.bits) ≡ list_all (flag_at l.flags) l.bits
