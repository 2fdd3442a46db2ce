use Rattle.std.proofs.Common.{◌≡◌, ◌++◌, replicate}
use Rattle.vs_values.proofs.slots.extended.Given as goal

abbrev pub invariant-loop : goal.invariant-loop
invariant-loop l = l.to.items ≡ l.fn.to.items ++ replicate l.counter l.fill
