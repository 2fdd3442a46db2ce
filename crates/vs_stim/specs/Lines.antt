-- The lines of a text.
use Rattle.std.specs.Prelude.{ℕ, Bool, true, false, not, ◌&&◌, List, [], ◌∷◌, nat_eq}

-- a line: its bytes before the LF, and whether it has an LF
pub record Line : Type 0 where
  pub bytes : List ℕ
  pub ended : Bool

-- a text as its first line, and the lines behind that
pub record Lines : Type 0 where
  pub first : Line
  pub later : List Line

abbrev pub all_lines : Lines → List Line
all_lines t = t.first ∷ t.later

-- what a byte in front of the text makes of it
abbrev pub with_byte : ℕ → Lines → Lines
with_byte b t = record { first = record { bytes = b ∷ t.first.bytes; ended = t.first.ended }; later = t.later }

abbrev pub with_lf : Lines → Lines
with_lf t = record { first = record { bytes = []; ended = true }; later = all_lines t }

-- Each LF ends a line. The last line has none, and may be empty.
abbrev pub lines : List ℕ → Lines
lines [] = record { first = record { bytes = []; ended = false }; later = [] }
lines (b ∷ bs) = elim (nat_eq b 10) [ true ↦ with_lf (lines bs) | false ↦ with_byte b (lines bs) ]

-- without one CR at its end
abbrev pub without_cr : List ℕ → List ℕ
without_cr [] = []
without_cr (b ∷ []) = elim (nat_eq b 13) [ true ↦ [] | false ↦ b ∷ [] ]
without_cr (b ∷ c ∷ bs) = b ∷ without_cr (c ∷ bs)

-- what a line says: one CR before the LF is dropped
abbrev pub content : Line → List ℕ
content line = elim line.ended [ true ↦ without_cr line.bytes | false ↦ line.bytes ]

-- no byte of a text is an LF or a CR
abbrev pub is_inner : List ℕ → Bool
is_inner [] = true
is_inner (b ∷ bs) = not (nat_eq b 10) && not (nat_eq b 13) && is_inner bs

-- no byte of a text is an LF
abbrev pub no_lf : List ℕ → Bool
no_lf [] = true
no_lf (b ∷ bs) = not (nat_eq b 10) && no_lf bs
