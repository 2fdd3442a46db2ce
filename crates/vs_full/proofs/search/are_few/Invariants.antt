use Rattle.std.proofs.Common.{◌≡◌, ◌≤◌, ◌*◌, ◌^◌, take}
use Rattle.std.specs.Prelude.{sum_by}
use Rattle.vs_design.specs.Covers.{values_of}
use Rattle.vs_full.proofs.search.are_few.Given as goal

abbrev pub invariant-loop-pattern : goal.invariant-loop-pattern
invariant-loop-pattern l = record { sum : l.sum ≡ sum_by values_of (take l.pattern-index l.patterns); most : l.sum ≤ l.pattern-index * 2 ^ 64 }
