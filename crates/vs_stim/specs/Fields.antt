-- The fields of a line.
use Rattle.std.specs.Prelude.{ℕ, Bool, true, false, ◌||◌, List, [], ◌∷◌, nat_eq}

-- space or tab
abbrev pub is_blank : ℕ → Bool
is_blank b = nat_eq b 32 || nat_eq b 9

-- A line is skipped where it has only blanks, or # is its first byte that isn't a blank.
abbrev pub is_skipped : List ℕ → Bool
is_skipped [] = true
is_skipped (b ∷ bs) = elim (is_blank b) [ true ↦ is_skipped bs | false ↦ nat_eq b 35 ]

-- a text up to its first blank, and the fields behind that
pub record Fields : Type 0 where
  pub word : List ℕ
  pub later : List (List ℕ)

-- an empty word is no field
abbrev pub all_fields : List ℕ → List (List ℕ) → List (List ℕ)
all_fields [] later = later
all_fields (b ∷ bs) later = (b ∷ bs) ∷ later

-- Each blank ends a word.
abbrev pub words : List ℕ → Fields
words [] = record { word = []; later = [] }
words (b ∷ bs) =
    let t = words bs in
    elim (is_blank b) [ true ↦ record { word = []; later = all_fields t.word t.later } | false ↦ record { word = b ∷ t.word; later = t.later } ]

-- the fields of a text, which one or more blanks separate
abbrev pub fields : List ℕ → List (List ℕ)
fields bs = all_fields (words bs).word (words bs).later
