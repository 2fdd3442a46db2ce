use Rattle.std.proofs.Common.{◌≡◌, ◌++◌, true, reverse, vec_len}
use Rattle.vs_design.specs.Footprints.{contains}
use Rattle.vs_level.proofs.search.Search.path_to.Given as goal

abbrev pub invariant-loop-p : goal.invariant-loop-p
invariant-loop-p l = (l.part.items ++ reverse l.self-inside.path.items ≡ l.fn.self.path) × (contains (reverse l.self-inside.path.items) l.q ≡ true)

abbrev pub decreases-loop-p : goal.decreases-loop-p
decreases-loop-p l = vec_len l.self-inside.path
