use Rattle.std.proofs.Common.{◌≡◌, ◌++◌, take}
use Rattle.vs_values.proofs.joins.appended.Given as goal

abbrev pub invariant-loop-slot : goal.invariant-loop-slot
invariant-loop-slot l = l.low.items ≡ l.initial.low.items ++ take l.slot-index l.slot-items
