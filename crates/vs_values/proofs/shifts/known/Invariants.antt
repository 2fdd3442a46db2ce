use Rattle.std.proofs.Common.{◌≡◌, true, take}
use Rattle.vs_four.specs.Logic.{all_known}
use Rattle.vs_values.specs.Constants.{constant_bits}
use Rattle.vs_values.proofs.shifts.known.Given as goal

abbrev pub invariant-loop-slot : goal.invariant-loop-slot
invariant-loop-slot l = all_known (constant_bits (take l.slot-index l.amount)) ≡ true
