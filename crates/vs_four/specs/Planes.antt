-- A vector as two numbers: bit i of the first and bit i of the second give the vector's bit i.
use Rattle.std.specs.Prelude.{ℕ, zero, suc, ◌+◌, ◌*◌, ◌/◌, ◌%◌, List, [], ◌∷◌}
use Rattle.vs_four.specs.declared.Bit4.{Bit4}
use Rattle.vs_four.specs.declared.Bit4.TheVariants.{Zero, One, X, Z}

-- the digits of one bit: 0 is 0 0, 1 is 1 0, z is 0 1 and x is 1 1
abbrev pub value_digit : Bit4 → ℕ
value_digit Zero = 0
value_digit One = 1
value_digit X = 1
value_digit Z = 0

abbrev pub unknown_digit : Bit4 → ℕ
unknown_digit Zero = 0
unknown_digit One = 0
unknown_digit X = 1
unknown_digit Z = 1

-- the bit with these digits
abbrev pub decode : ℕ → ℕ → Bit4
decode zero zero = Zero
decode zero (suc u) = Z
decode (suc v) zero = One
decode (suc v) (suc u) = X

-- the low n bits of two planes, least significant first
unfoldable pub bits_of_planes : ℕ → ℕ → ℕ → List Bit4
bits_of_planes zero value unknown = []
bits_of_planes (suc n) value unknown = decode (value % 2) (unknown % 2) ∷ bits_of_planes n (value / 2) (unknown / 2)

-- the planes of a vector
unfoldable pub value_plane : List Bit4 → ℕ
value_plane [] = 0
value_plane (b ∷ bs) = value_digit b + 2 * value_plane bs

unfoldable pub unknown_plane : List Bit4 → ℕ
unknown_plane [] = 0
unknown_plane (b ∷ bs) = unknown_digit b + 2 * unknown_plane bs
