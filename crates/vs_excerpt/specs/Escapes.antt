-- Bytes of a text as they are shown: what isn't printable is escaped.
use Rattle.std.specs.Prelude.{ℕ, ◌+◌, ◌/◌, ◌%◌, Bool, ◌&&◌, ◌==◌, nat_le, nat_lt, List, [], ◌∷◌, if◌then◌else◌}
use Rattle.std.specs.List.{flat_map}

-- a printable character of ASCII
abbrev pub is_printable : ℕ → Bool
is_printable b = nat_le 32 b && nat_le b 126

-- a digit from 0 to 15, as `0` to `9` and `A` to `F`
abbrev pub hex_digit : ℕ → ℕ
hex_digit n = if nat_lt n 10 then 48 + n else 55 + n

-- a byte that isn't printable is `\x` and two digits
abbrev pub escaped_byte : ℕ → List ℕ
escaped_byte b = if is_printable b then (b ∷ []) else (92 ∷ 120 ∷ hex_digit (b / 16) ∷ hex_digit (b % 16) ∷ [])

abbrev pub escaped : List ℕ → List ℕ
escaped bytes = flat_map escaped_byte bytes

-- in a line of a text a tab stays
abbrev pub is_tab : ℕ → Bool
is_tab b = b == 9

abbrev pub shown_byte : ℕ → List ℕ
shown_byte b = if is_tab b then (9 ∷ []) else escaped_byte b

abbrev pub shown : List ℕ → List ℕ
shown bytes = flat_map shown_byte bytes

-- what stands below a byte in the line of the caret: a blank for each character that shows it, and below a tab a tab
abbrev pub blank_byte : ℕ → List ℕ
blank_byte b = if is_tab b then (9 ∷ []) else (if is_printable b then (32 ∷ []) else (32 ∷ 32 ∷ 32 ∷ 32 ∷ []))

abbrev pub blanks : List ℕ → List ℕ
blanks bytes = flat_map blank_byte bytes
