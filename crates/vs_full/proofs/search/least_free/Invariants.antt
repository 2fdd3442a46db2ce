use Rattle.std.proofs.Common.{◌≡◌, ◌≤◌}
use Rattle.vs_design.specs.Covers.{least_free}
use Rattle.vs_full.proofs.search.least_free.Given as goal

abbrev pub invariant-loop-k : goal.invariant-loop-k
invariant-loop-k l = record { least : l.least ≡ least_free l.k l.patterns; within : l.least ≤ l.k }
