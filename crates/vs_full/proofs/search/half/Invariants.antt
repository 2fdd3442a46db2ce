use Rattle.std.proofs.Common.{◌≡◌, take}
use Rattle.vs_design.specs.Covers.{half}
use Rattle.vs_full.proofs.search.half.Given as goal

abbrev pub invariant-loop-pattern : goal.invariant-loop-pattern
invariant-loop-pattern l = l.kept.items ≡ half l.value l.i (take l.pattern-index l.patterns)
