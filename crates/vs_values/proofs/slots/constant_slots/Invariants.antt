use Rattle.std.proofs.Common.{◌≡◌, take}
use Rattle.vs_values.specs.Constants.{constant_slots}
use Rattle.vs_values.proofs.slots.constant_slots.Given as goal

abbrev pub invariant-loop-n : goal.invariant-loop-n
invariant-loop-n l = l.to.items ≡ constant_slots (take l.n l.bits)
