use Rattle.std.proofs.Common.{◌≡◌, ◌+◌, length}
use Rattle.vs_writes.specs.Held.{state_of}
use Rattle.vs_queue.proofs.first.add_spares.Given as goal

abbrev pub invariant-loop-n : goal.invariant-loop-n
invariant-loop-n l = (length l.values.items ≡ length l.initial.values.items + l.n) × (state_of l.values.items ≡ state_of l.initial.values.items)
