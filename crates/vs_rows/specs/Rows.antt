-- Lines of a stimulus that count, and where they begin.
use Rattle.std.specs.Prelude.{ℕ, ◌+◌, ◌-◌, Bool, true, false, not, ◌&&◌, ◌||◌, ◌==◌, nat_lt, List, [], ◌∷◌, length, take, drop, get_or, find, Option, option_map, option_and_then, if◌then◌else◌}
use Rattle.std.specs.List.{prefix_len, range_with_len, before_first}
use Rattle.vs_excerpt.specs.Positions.{is_newline}

-- space or tab
abbrev pub is_blank : ℕ → Bool
is_blank b = b == 32 || b == 9

-- a text behind the blanks at its front
abbrev pub behind_blanks : List ℕ → List ℕ
behind_blanks text = drop (prefix_len is_blank text) text

-- an LF stands at the front
abbrev pub is_ended : List ℕ → Bool
is_ended [] = false
is_ended (b ∷ bs) = is_newline b

-- the end of a text or of a line stands at the front, or the `#` of a comment
abbrev pub is_silent : List ℕ → Bool
is_silent [] = true
is_silent (b ∷ bs) = is_newline b || (b == 35 || (b == 13 && is_ended bs))

-- a line begins at this byte
abbrev pub line_begins : List ℕ → ℕ → Bool
line_begins text at = at == 0 || is_newline (get_or text (at - 1) 0)

-- a line that counts begins at this byte: it has more than blanks, and is no comment
abbrev pub row_begins : List ℕ → ℕ → Bool
row_begins text at = line_begins text at && not (is_silent (behind_blanks (drop at text)))

-- the first byte from this one on at which such a line begins
abbrev pub row_from : List ℕ → ℕ → Option ℕ
row_from text from = find (row_begins text) (range_with_len from (length text - from))

-- the header, which is the first of them
abbrev pub header_row : List ℕ → Option ℕ
header_row text = row_from text 0

-- the first vector, which is the second
abbrev pub first_vector_row : List ℕ → Option ℕ
first_vector_row text = option_and_then (λ (at : ℕ). row_from text (at + 1)) (header_row text)

-- without one CR at its end
abbrev pub without_cr : List ℕ → List ℕ
without_cr line = if get_or line (length line - 1) 0 == 13 then take (length line - 1) line else line

-- what a line says that stands before so many bytes of its text, itself among them: one CR is dropped before the LF
abbrev pub content : (line : List ℕ) → (bytes : ℕ) → List ℕ
content line bytes = if nat_lt (length line) bytes then without_cr line else line

-- what the line says that begins at this byte
abbrev pub row_bytes : List ℕ → ℕ → List ℕ
row_bytes text at = content (before_first is_newline (drop at text)) (length (drop at text))

-- a digit of no known bit: x or z, in either case
abbrev pub is_unknown : ℕ → Bool
is_unknown b = b == 120 || (b == 88 || (b == 122 || b == 90))

-- the first of them in a line
abbrev pub unknown_in : List ℕ → Option ℕ
unknown_in line = find (λ (k : ℕ). is_unknown (get_or line k 0)) (range_with_len 0 (length line))

-- the byte of the text at which the first of them stands in the first vector
abbrev pub first_unknown : List ℕ → Option ℕ
first_unknown text = option_and_then (λ (at : ℕ). option_map (λ (k : ℕ). at + k) (unknown_in (row_bytes text at))) (first_vector_row text)
