use Rattle.std.proofs.Common.{◌≡◌, map, take}
use Rattle.vs_design.specs.Sets.{only}
use Rattle.vs_zero.proofs.starts.sets_of_values.Given as goal

abbrev pub invariant-loop-bit : goal.invariant-loop-bit
invariant-loop-bit l = l.sets.items ≡ map only (take l.bit l.values)
