-- Products by rows: from the least significant place up, a row is added to the product so far, from its place on.
use Rattle.std.specs.Prelude.{ℕ, Bool, false, ◌&&◌, length}
use Rattle.vs_four.specs.Logic.{BitList}
use Rattle.vs_kern_arith.specs.Digits.{digits, sum_digit, first_bits}

-- the digits of a row: those of the first operand where the second one's digit is 1, else 0
abbrev pub row_digits : Bool → BitList → ℕ → Bool
row_digits digit a k = digits a k && digit

-- the bits that stand from a row's place on once it is added to them, modulo 2^w, and x in an unknown lane
abbrev pub row_added : Bool → Bool → BitList → BitList → BitList
row_added unknown digit a rest = first_bits (sum_digit unknown (row_digits digit a) (digits rest) false) (length rest)
