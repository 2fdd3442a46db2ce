use Rattle.std.proofs.Common.{◌≡◌, true}
use Rattle.vs_level.specs.Search.{IsSearch, KeepsMet, effort, has_met}
use Rattle.vs_level.proofs.search.Search.visit.Given as goal

abbrev pub invariant-loop-p : goal.invariant-loop-p
invariant-loop-p l = IsSearch l.graph l.self × (has_met l.self l.root ≡ true) × KeepsMet l.fn.self l.self

abbrev pub decreases-loop-p : goal.decreases-loop-p
decreases-loop-p l = effort l.self
