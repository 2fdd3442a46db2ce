use Rattle.std.proofs.Common.{◌≡◌, length, map, take, List, ℕ}
use Rattle.vs_level.proofs.search.Search.begin.Given as goal

abbrev pub invariant-loop-feeders : goal.invariant-loop-feeders
invariant-loop-feeders l = l.left.items ≡ map (λ (fs : List ℕ). length fs) (take l.feeders-index l.feeders-items)
