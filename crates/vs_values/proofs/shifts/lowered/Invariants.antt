use Rattle.std.proofs.Common.{◌≡◌, ◌++◌, replicate, take, drop}
use Rattle.vs_values.proofs.shifts.lowered.Given as goal

abbrev pub invariant-loop-k : goal.invariant-loop-k
invariant-loop-k l = l.moved.items ≡ drop l.places (take l.k l.to)

abbrev pub invariant-loop : goal.invariant-loop
invariant-loop l = l.moved.items ≡ drop l.places l.to ++ replicate l.counter l.fill
