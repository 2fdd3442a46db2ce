use Rattle.std.proofs.Common.{◌≡◌, ◌≤◌, ◌^◌, take}
use Rattle.vs_code.specs.Calls.{count_for}
use Rattle.vs_code.proofs.program.count_for.Given as goal

-- the count for the slots so far
abbrev pub invariant-loop-slot : goal.invariant-loop-slot
invariant-loop-slot l = record { exact : l.count ≡ count_for (take l.slot-index l.slots); most : l.count ≤ 2 ^ 32 }
