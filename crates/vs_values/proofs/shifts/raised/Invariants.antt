use Rattle.std.proofs.Common.{◌≡◌, ◌++◌, replicate, take}
use Rattle.vs_values.proofs.shifts.raised.Given as goal

abbrev pub invariant-loop : goal.invariant-loop
invariant-loop l = l.moved.items ≡ replicate l.counter l.fill

abbrev pub invariant-loop-k : goal.invariant-loop-k
invariant-loop-k l = l.moved.items ≡ replicate l.places l.fill ++ take l.k l.to
