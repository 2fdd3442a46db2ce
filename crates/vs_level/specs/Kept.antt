-- How a graph, and the writers of bits, are kept.
use Rattle.std.specs.Prelude.{ℕ, List, map}
use Rattle.smallvec.specs.SmallVec.{SmallVec}
use Rattle.vs_level.specs.declared.graph.Graph.TheInside.{Inside}
use Rattle.vs_level.specs.declared.writers.Writers.TheInside.{Inside as Table}
use Rattle.vs_level.specs.Graph.{Feeding}

abbrev pub feeding_of : Inside → Feeding
feeding_of g = record { nodes = g.nodes.items; feeders = g.feeders.items }

abbrev pub writers_of : Table → List (List ℕ)
writers_of w = map (λ (v : SmallVec ℕ). v.items) w.of.items
