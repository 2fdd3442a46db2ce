-- The graph of a design: its assigns and combinational blocks, and what feeds each.
use Rattle.std.specs.Prelude.{◌≡◌, ℕ, ◌<◌, Bool, not, ◌&&◌, List, [], ◌∷◌, ◌++◌, length, slice_index_or, nat_lt}
use Rattle.std.specs.List.{list_any}
use Rattle.vs_design.specs.Designs.{is_clocked, Design}
use Rattle.vs_design.specs.Footprints.{contains, writes_of}
use Rattle.vs_design.specs.Levels.{needs, at_number}
use Rattle.vs_level.specs.Graph.{Feeding, is_node, is_fed_by}

-- the process of this number is an assign or a combinational block
abbrev pub settles : Design → ℕ → Bool
settles d p = at_number p d.processes (λ x. not (is_clocked x))

-- and it writes the bit
abbrev pub is_writer : Design → ℕ → ℕ → Bool
is_writer d b q = at_number q d.processes (λ x. not (is_clocked x) && contains (writes_of x) b)

-- q writes a bit that p reads or waits on
abbrev pub is_feeder : Design → ℕ → ℕ → Bool
is_feeder d p q = at_number p d.processes (λ y. not (is_clocked y) && list_any (λ b. is_writer d b q) (needs y))

abbrev pub writers_at : List (List ℕ) → ℕ → List ℕ
writers_at writers b = slice_index_or writers b []

-- the writers among the processes before p
abbrev pub AreWriters : Design → ℕ → List (List ℕ) → Type 0
AreWriters d p writers = (b q : ℕ) → b < length writers → contains (writers_at writers b) q ≡ (nat_lt q p && is_writer d b q)

-- the graph of the processes before p
pub record IsGraphUpTo (d : Design) (p : ℕ) (g : Feeding) : Type 0 where
  pub count : length g.feeders ≡ p
  pub nodes : (q : ℕ) → is_node g q ≡ (nat_lt q p && settles d q)
  pub feeders : (r q : ℕ) → r < p → is_fed_by g r q ≡ is_feeder d r q

-- with one process more, a node or not
abbrev pub with_node : Feeding → ℕ → List ℕ → Feeding
with_node g p feeders = record { nodes = g.nodes ++ p ∷ []; feeders = g.feeders ++ feeders ∷ [] }

abbrev pub with_other : Feeding → Feeding
with_other g = record g { feeders = g.feeders ++ [] ∷ [] }

abbrev pub IsGraphOf : Design → Feeding → Type 0
IsGraphOf d g = IsGraphUpTo d (length d.processes) g
