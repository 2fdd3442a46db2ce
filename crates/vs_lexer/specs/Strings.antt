-- Strings, and the numbers that short ones are (IEEE 1364-2005, 3.6). A byte past the end of a text reads as 0.
use Rattle.std.specs.Prelude.{ℕ, zero, suc, ◌+◌, ◌-◌, ◌*◌, Bool, true, false, not, ◌&&◌, ◌||◌, if◌then◌else◌, ◌==◌, nat_le, nat_lt, max, List, [], ◌∷◌, take, drop, length, slice_index, Option, Some, None}
use Rattle.std.specs.List.{fold}
use Rattle.vs_lexer.specs.declared.strings.Character.{Character}
use Rattle.vs_lexer.specs.declared.strings.StringNumber.{StringNumber}

-- these bytes, after the first `"`, end a string at their last one; `\` takes the byte after it along, but no line end; `"` is 34, `\` is 92, LF is 10
abbrev pub ends_string : List ℕ → Bool
ends_string [] = false
ends_string (b ∷ []) = b == 34
ends_string (b ∷ c ∷ bs) = elim (b == 92) [ true ↦ not (c == 10) && ends_string bs | false ↦ not (b == 34) && not (b == 10) && ends_string (c ∷ bs) ]

-- these bytes begin as a string does
abbrev pub is_quoted : List ℕ → Bool
is_quoted text = slice_index text 0 == 34

-- the bytes between the quotes of a string
abbrev pub between_quotes : List ℕ → List ℕ
between_quotes text = take (length text - 2) (drop 1 text)

-- ---- characters

-- what `\` and one byte stand for (3.6.3, table 3-1): with `n` a line feed, with `t` a tab, with `\` and with `"` that byte itself; n is 110, t is 116
abbrev pub letter_escape : ℕ → Option ℕ
letter_escape b = if b == 110 then Some 10 else (if b == 116 then Some 9 else (if b == 92 || b == 34 then Some b else None))

abbrev pub is_octal : ℕ → Bool
is_octal b = nat_le 48 b && nat_le b 55

-- the number of three octal digits
abbrev pub octal_value : ℕ → ℕ → ℕ → ℕ
octal_value a b c = 64 * (a - 48) + 8 * (b - 48) + (c - 48)

-- what `\` and three octal digits stand for (3.6.3, table 3-1): the character of that number, which is below 256
abbrev pub octal_escape : ℕ → ℕ → ℕ → Option ℕ
octal_escape a b c = if is_octal a && is_octal b && is_octal c && nat_lt (octal_value a b c) 256 then Some (octal_value a b c) else None

abbrev pub spelled_by : ℕ → Option ℕ → Option Character
spelled_by n None = None
spelled_by n (Some c) = Some (record { value = c; length = n })

-- the character of the escape at the front, where it is one of those
abbrev pub escape_here : List ℕ → Option Character
escape_here text = elim (letter_escape (slice_index text 1)) [
  | Some c ↦ Some (record { value = c; length = 2 })
  | None ↦ spelled_by 4 (octal_escape (slice_index text 1) (slice_index text 2) (slice_index text 3))
]

-- the character at the front: a byte stands for itself, unless it is `\`
abbrev pub character_here : List ℕ → Option Character
character_here text = if slice_index text 0 == 92 then escape_here text else Some (record { value = slice_index text 0; length = 1 })

-- a character in front of those behind it
abbrev pub with_character : ℕ → Option (List ℕ) → Option (List ℕ)
with_character c None = None
with_character c (Some cs) = Some (c ∷ cs)

-- the characters that these bytes spell, where they are n at most: nothing where they are more, or one is an escape other than those above
abbrev pub characters_within : ℕ → List ℕ → Option (List ℕ)
characters_within n [] = Some []
characters_within zero (b ∷ bs) = None
characters_within (suc n) (b ∷ bs) = elim (character_here (b ∷ bs)) [ None ↦ None | Some c ↦ with_character c.value (characters_within n (drop c.length (b ∷ bs))) ]

-- ---- numbers

-- the greatest number of characters of a string that is a number
abbrev pub character_limit : ℕ
character_limit = 8

-- the characters of a string that is a number
unfoldable pub characters_of : List ℕ → Option (List ℕ)
characters_of text = characters_within character_limit (between_quotes text)

-- a string is a number
abbrev pub is_short_string : List ℕ → Bool
is_short_string text = elim (characters_of text) [ None ↦ false | Some cs ↦ true ]

-- the number of characters, eight bits each, the last one lowest (3.6.2)
abbrev pub with_code : ℕ → ℕ → ℕ
with_code n c = 256 * n + c

abbrev pub characters_value : List ℕ → ℕ
characters_value cs = fold with_code 0 cs

-- eight bits a character; a string without any is one of value 0
abbrev pub characters_size : ℕ → ℕ
characters_size n = 8 * max 1 n

abbrev pub number_of_characters : Option (List ℕ) → Option StringNumber
number_of_characters None = None
number_of_characters (Some cs) = Some (record { characters = length cs; value = characters_value cs })

-- the length in bits of a string that is a number
abbrev pub string_size : List ℕ → ℕ
string_size text = elim (characters_of text) [ None ↦ 8 | Some cs ↦ characters_size (length cs) ]

abbrev pub string_value : List ℕ → ℕ
string_value text = elim (characters_of text) [ None ↦ 0 | Some cs ↦ characters_value cs ]
