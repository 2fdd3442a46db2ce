use Rattle.std.proofs.Common.{◌≡◌, ◌++◌, drop, map}
use Rattle.vs_design.specs.Covers.{matched}
use Rattle.vs_full.proofs.patterns.matched_each.Given as goal

abbrev pub invariant-loop-k : goal.invariant-loop-k
invariant-loop-k l = l.list ++ map (matched l.kind) (drop l.k l.value) ≡ map (matched l.kind) l.value
