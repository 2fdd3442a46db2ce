use Rattle.std.proofs.Common.{◌≡◌}
use Rattle.vs_design.specs.Values.{count_from}
use Rattle.vs_values.proofs.names.numbers.Given as goal

abbrev pub invariant-loop-k : goal.invariant-loop-k
invariant-loop-k l = l.to.items ≡ count_from l.first l.k
