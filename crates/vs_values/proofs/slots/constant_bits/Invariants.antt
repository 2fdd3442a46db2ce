use Rattle.std.proofs.Common.{◌≡◌, take}
use Rattle.vs_values.specs.Constants.{constant_bits}
use Rattle.vs_values.proofs.slots.constant_bits.Given as goal

abbrev pub invariant-loop-slot : goal.invariant-loop-slot
invariant-loop-slot l = l.bits.items ≡ constant_bits (take l.slot-index l.slots)
