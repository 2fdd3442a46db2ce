use Rattle.std.proofs.Common.{◌≡◌, map, take, slice_index}
use Rattle.vs_values.proofs.environment.picked.Given as goal

abbrev pub invariant-loop-b : goal.invariant-loop-b
invariant-loop-b l = l.slots.items ≡ map (slice_index l.env) (take l.b-index l.bits)
