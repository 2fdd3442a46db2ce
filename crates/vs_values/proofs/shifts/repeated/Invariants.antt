use Rattle.std.proofs.Common.{◌≡◌, replicate}
use Rattle.vs_values.proofs.shifts.repeated.Given as goal

abbrev pub invariant-loop : goal.invariant-loop
invariant-loop l = l.to.items ≡ replicate l.counter l.slot
