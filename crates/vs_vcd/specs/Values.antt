-- Values as a VCD writes them (IEEE 1364-2005, 18.2.2).
use Rattle.std.specs.Prelude.{ℕ, Bool, true, false, List, [], ◌∷◌, ◌++◌, map, reverse, codes}
use Rattle.vs_four.specs.declared.Bit4.{Bit4}
use Rattle.vs_four.specs.declared.Bit4.TheVariants.{Zero, One, X, Z}
use Rattle.vs_four.specs.Logic.{BitList}
use Rattle.vs_vcd.specs.Numerals.{identifier}

-- a text and its line feed
abbrev pub line : List ℕ → List ℕ
line text = text ++ 10 ∷ []

-- `0`, `1`, `x` or `z`
abbrev pub digit_code : Bit4 → ℕ
digit_code Zero = 48
digit_code One = 49
digit_code X = 120
digit_code Z = 122

-- the first of two leading digits is left out, since a reader fills it in again: 0 before 0 and 1, x before x, z before z (tables 18-1 and 18-2)
abbrev pub is_redundant : Bit4 → Bit4 → Bool
is_redundant Zero Zero = true
is_redundant Zero One = true
is_redundant X X = true
is_redundant Z Z = true
is_redundant _ _ = false

-- digits, most significant first, in their shortest form
abbrev pub shortest : List Bit4 → List Bit4
shortest [] = []
shortest (a ∷ []) = a ∷ []
shortest (a ∷ b ∷ ds) = elim (is_redundant a b) [ true ↦ shortest (b ∷ ds) | false ↦ a ∷ b ∷ ds ]

-- one bit is its digit; more bits are `b`, their digits and a blank
abbrev pub value_text : BitList → List ℕ
value_text [] = []
value_text (bit ∷ []) = digit_code bit ∷ []
value_text (a ∷ b ∷ bits) = codes "b" ++ map digit_code (shortest (reverse (a ∷ b ∷ bits))) ++ codes " "

-- the value of signal n
unfoldable pub value_line : ℕ → BitList → List ℕ
value_line n bits = line (value_text bits ++ identifier n)

-- what ends the line of a value of more bits than one; of one bit it ends it without the blank
unfoldable pub tail_text : ℕ → List ℕ
tail_text n = codes " " ++ line (identifier n)
