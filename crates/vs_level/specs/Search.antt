-- What a search for an order keeps.
use Rattle.std.specs.Prelude.{◌≡◌, ℕ, ◌+◌, ◌≤◌, ◌<◌, Bool, true, false, List, [], ◌∷◌, ◌++◌, ◌||◌, length, reverse, sum, sum_by, slice_index, slice_index_or, set, Option, Some, None}
use Rattle.vs_design.specs.Footprints.{contains}
use Rattle.vs_design.specs.Cycles.{AreApart}
use Rattle.vs_level.specs.declared.search.Mark.{Mark}
use Rattle.vs_level.specs.declared.search.Mark.TheVariants.{Fresh, Open, Placed}
use Rattle.vs_level.specs.declared.search.Search.TheInside.{Inside}
use Rattle.vs_level.specs.Graph.{Feeding, feeders_at, is_node, is_fed_by, IsPlaced}

-- how far a search has come: its open processes and the placed ones, the last one first
pub record Progress : Type 0 where
  pub marks : List Mark
  pub left : List ℕ
  pub path : List ℕ
  pub placed : List ℕ

abbrev pub progress_of : Inside → Progress
progress_of s = record { marks = s.marks.items; left = s.left.items; path = reverse s.path.items; placed = reverse s.order.items }

abbrev pub is_open : Mark → Bool
is_open Fresh = false
is_open Open = true
is_open Placed = false

abbrev pub is_placed : Mark → Bool
is_placed Fresh = false
is_placed Open = false
is_placed Placed = true

abbrev pub mark_at : Progress → ℕ → Mark
mark_at s p = slice_index_or s.marks p Fresh

abbrev pub left_at : Progress → ℕ → ℕ
left_at s p = slice_index s.left p

abbrev pub first_of : List ℕ → Option ℕ
first_of [] = None
first_of (p ∷ ps) = Some p

-- p becomes open, is placed, or has one feeder less to look at
abbrev pub opened : Progress → ℕ → Progress
opened s p = record s { marks = set s.marks p Open; path = p ∷ s.path }

abbrev pub rest_of : List ℕ → List ℕ
rest_of [] = []
rest_of (p ∷ ps) = ps

abbrev pub with_placed : Progress → ℕ → Progress
with_placed s p = record s { marks = set s.marks p Placed; path = rest_of s.path; placed = p ∷ s.placed }

abbrev pub looked : Progress → ℕ → ℕ → Progress
looked s p left = record s { left = set s.left p left }

-- each feeds the next one
abbrev pub IsWay : Feeding → List ℕ → Type 0
IsWay g [] = Unit {0}
IsWay g (p ∷ []) = Unit {0}
IsWay g (p ∷ q ∷ ps) = (is_fed_by g q p ≡ true) × IsWay g (q ∷ ps)

pub record IsSearch (g : Feeding) (s : Progress) : Type 0 where
  pub marks : length s.marks ≡ length g.feeders
  pub left : length s.left ≡ length g.feeders
  pub most : (p : ℕ) → left_at s p ≤ length (feeders_at g p)
  -- the feeders that were looked at are placed
  pub done : (p k : ℕ) → left_at s p ≤ k → k < length (feeders_at g p) → contains s.placed (slice_index (feeders_at g p) k) ≡ true
  pub are_open : (p : ℕ) → contains s.path p ≡ is_open (mark_at s p)
  pub are_placed : (p : ℕ) → contains s.placed p ≡ is_placed (mark_at s p)
  pub way : IsWay g s.path
  pub apart : AreApart s.path
  pub nodes : (p : ℕ) → contains s.path p ≡ true → is_node g p ≡ true
  pub order : IsPlaced g s.placed

-- what is left to do
abbrev pub weight : Mark → ℕ
weight Fresh = 2
weight Open = 1
weight Placed = 0

abbrev pub effort : Progress → ℕ
effort s = sum s.left + sum_by weight s.marks

-- the search has met q
abbrev pub has_met : Progress → ℕ → Bool
has_met s q = contains s.path q || contains s.placed q

abbrev pub KeepsMet : Progress → Progress → Type 0
KeepsMet old new = (q : ℕ) → has_met old q ≡ true → has_met new q ≡ true

-- the list begins the other one, and q is its last element
pub record IsUpTo (whole : List ℕ) (q : ℕ) (part : List ℕ) : Type 0 where
  pub before : List ℕ
  pub after : List ℕ
  pub is_whole : whole ≡ part ++ after
  pub is_part : part ≡ before ++ q ∷ []
