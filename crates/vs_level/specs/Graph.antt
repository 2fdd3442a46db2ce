-- Graphs of processes: some processes are nodes, and each process has a list of those that feed it.
use Rattle.std.specs.Prelude.{◌≡◌, ℕ, ◌<◌, Bool, true, false, List, [], ◌∷◌, length, reverse, slice_index_or}
use Rattle.vs_design.specs.Footprints.{contains}
use Rattle.vs_design.specs.Cycles.{AreApart, AreAtLeast}

-- what feeds a process is listed by the number of the process
pub record Feeding : Type 0 where
  pub nodes : List ℕ
  pub feeders : List (List ℕ)

abbrev pub feeders_at : Feeding → ℕ → List ℕ
feeders_at g p = slice_index_or g.feeders p []

abbrev pub is_node : Feeding → ℕ → Bool
is_node g p = contains g.nodes p

-- q feeds p
abbrev pub is_fed_by : Feeding → ℕ → ℕ → Bool
is_fed_by g p q = contains (feeders_at g p) q

-- what feeds a process is a node, and each node is a process
pub record IsClosed (g : Feeding) : Type 0 where
  pub feeders : (p q : ℕ) → is_fed_by g p q ≡ true → is_node g q ≡ true
  pub there : (p : ℕ) → is_node g p ≡ true → p < length g.feeders

-- nodes, the last one first, each once and with all that feed it behind it
abbrev pub IsPlaced : Feeding → List ℕ → Type 0
IsPlaced g [] = Unit {0}
IsPlaced g (p ∷ placed) = (contains placed p ≡ false) × (is_node g p ≡ true) × ((q : ℕ) → is_fed_by g p q ≡ true → contains placed q ≡ true) × IsPlaced g placed

-- all nodes, each once and after all that feed it
pub record IsSorted (g : Feeding) (order : List ℕ) : Type 0 where
  pub placed : IsPlaced g (reverse order)
  pub all : (p : ℕ) → is_node g p ≡ true → contains (reverse order) p ≡ true

-- each feeds the next one, and the last one this
abbrev pub IsLinked : Feeding → List ℕ → ℕ → Type 0
IsLinked g [] last = Unit {0}
IsLinked g (p ∷ []) last = is_fed_by g last p ≡ true
IsLinked g (p ∷ q ∷ ps) last = (is_fed_by g q p ≡ true) × IsLinked g (q ∷ ps) last

-- each feeds the next one, the last one the first, and none is there twice
abbrev pub IsRing : Feeding → List ℕ → Type 0
IsRing g [] = ⊥
IsRing g (p ∷ ps) = IsLinked g (p ∷ ps) p × AreApart (p ∷ ps)

-- such a ring with its least process first
abbrev pub IsCircle : Feeding → List ℕ → Type 0
IsCircle g [] = ⊥
IsCircle g (p ∷ ps) = IsLinked g (p ∷ ps) p × AreApart (p ∷ ps) × AreAtLeast p ps
