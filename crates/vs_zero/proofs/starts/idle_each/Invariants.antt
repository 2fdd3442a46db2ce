use Rattle.std.proofs.Common.{◌≡◌, map, take}
use Rattle.vs_zero.specs.Starts.{idle_of}
use Rattle.vs_zero.proofs.starts.idle_each.Given as goal

abbrev pub invariant-loop-bit : goal.invariant-loop-bit
invariant-loop-bit l = l.values.items ≡ map idle_of (take l.bit l.sets)
