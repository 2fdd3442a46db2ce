use Rattle.std.proofs.Common.{◌≡◌, map, slice_index}
use Rattle.vs_design.specs.Values.{count_from}
use Rattle.vs_values.proofs.names.run.Given as goal

abbrev pub invariant-loop-k : goal.invariant-loop-k
invariant-loop-k l = l.to.items ≡ map (slice_index l.env) (count_from l.first l.k)
