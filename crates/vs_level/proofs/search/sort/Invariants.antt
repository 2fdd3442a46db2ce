use Rattle.std.proofs.Common.{◌≡◌, ℕ, ◌<◌, true, [], slice_index}
use Rattle.vs_design.specs.Footprints.{contains}
use Rattle.vs_level.specs.Search.{IsSearch}
use Rattle.vs_level.proofs.search.sort.Given as goal

abbrev pub invariant-loop-root : goal.invariant-loop-root
invariant-loop-root l =
    IsSearch l.graph l.search × (l.search.path ≡ []) × ((k : ℕ) → k < l.root-index → contains l.search.placed (slice_index l.root-items k) ≡ true)
