use Rattle.std.proofs.Common.{◌≡◌, ◌≤◌, take}
use Rattle.vs_design.specs.Covers.{free_in}
use Rattle.vs_full.proofs.search.free_in.Given as goal

abbrev pub invariant-loop-pattern : goal.invariant-loop-pattern
invariant-loop-pattern l = record { count : l.count ≡ free_in l.i (take l.pattern-index l.patterns); most : l.count ≤ l.pattern-index }
