use Rattle.std.proofs.Common.{◌≡◌, ◌++◌, take}
use Rattle.vs_four.specs.Lengths.{repeat}
use Rattle.vs_values.proofs.joins.repeated.Given as goal

abbrev pub invariant-loop : goal.invariant-loop
invariant-loop l = l.to.items ≡ repeat l.counter l.one.items

abbrev pub invariant-loop-k : goal.invariant-loop-k
invariant-loop-k l = l.to.items ≡ repeat l.counter l.one.items ++ take l.k l.one.items
