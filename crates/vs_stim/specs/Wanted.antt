-- The digits that outputs are wanted to have.
use Rattle.std.specs.Prelude.{◌≡◌, ℕ, ◌/◌, ◌%◌, List, [], ◌∷◌, ◌++◌, length, map, take, nat_eq, true, false, Some}
use Rattle.vs_four.specs.declared.Bit4.{Bit4}
use Rattle.vs_stim.specs.declared.wanted.Digit.{Digit}
use Rattle.vs_stim.specs.declared.wanted.Digit.TheVariants.{Exactly, Any}
use Rattle.vs_stim.specs.Vectors.{wanted_of}

-- the digits that each expected output is wanted to have
abbrev pub Wanteds : Type 0
Wanteds = List (List Digit)

-- the digits of bits of which some stand for any: those that have a 1 in this number's binary digits, least significant first
unfoldable pub marked : List Bit4 → ℕ → List Digit
marked [] any = []
marked (b ∷ bs) any = elim (nat_eq (any % 2) 0) [ true ↦ Exactly b | false ↦ Any ] ∷ marked bs (any / 2)

-- each is the bit
abbrev pub exactly : List Bit4 → List Digit
exactly bs = map (λ b. Exactly b) bs

-- the lengths of wanted digits
abbrev pub wanted_sizes : Wanteds → List ℕ
wanted_sizes ws = map (λ w. length w) ws

-- So many of these bytes are digits, and stand below those before them.
pub record ReadsWanted (bytes : List ℕ) (count : ℕ) (high all : List Digit) : Type 0 where
  pub digits : List Digit
  pub are : wanted_of (take count bytes) ≡ Some digits
  pub below : all ≡ digits ++ high
