-- Sums and order of binary numbers, digit by digit.
use Rattle.std.specs.Prelude.{ℕ, zero, suc, ◌+◌, Bool, true, false, ◌&&◌, ◌||◌, map, slice_index_or, if◌then◌else◌}
use Rattle.std.specs.List.{range_with_len}
use Rattle.vs_four.specs.declared.Bit4.{Bit4}
use Rattle.vs_four.specs.declared.Bit4.TheVariants.{X, Zero}
use Rattle.vs_four.specs.Tables.{not_bit, of_bool}
use Rattle.vs_four.specs.Logic.{BitList, all_known}
use Rattle.vs_four.specs.Numbers.{number, bits_of, if_known}
use Rattle.vs_plane.specs.Bits.{differ}
use Rattle.vs_plane.specs.Lanes.{value_bit}

-- the number of a digit
abbrev pub bit : Bool → ℕ
bit true = 1
bit false = 0

-- the digit and the carry of the sum of two digits and a carry
abbrev pub sum_of : Bool → Bool → Bool → Bool
sum_of x y c = differ (differ x y) c

abbrev pub carry_of : Bool → Bool → Bool → Bool
carry_of true y c = y || c
carry_of false y c = y && c

-- whether the number of a digit x and the digits below it is less than that of y and those below it, by whether that of the digits below is
abbrev pub less_of : Bool → Bool → Bool → Bool
less_of true y below = y && below
less_of false y below = y || below

-- the second operand of a sum, inverted where this says so
abbrev pub second : Bool → BitList → BitList
second true b = map not_bit b
second false b = b

-- `a + b`, or with b inverted and 1 more: that is `a - b`, and 2^w more
abbrev pub total : Bool → BitList → BitList → ℕ
total inverted a b = number a + number (second inverted b) + bit inverted

-- the low w bits of it, where all bits are known
abbrev pub summed : Bool → ℕ → BitList → BitList → BitList
summed inverted w a b = if_known (all_known a && all_known b) w (bits_of w (total inverted a b))

-- ---- place by place

-- the digits of a vector; those past its end are 0
abbrev pub digits : BitList → ℕ → Bool
digits a k = value_bit (slice_index_or a k Zero)

-- the carry into place k, where c is the one into place 0: a place generates one, or passes on the one into it
unfoldable pub carry_into : (ℕ → Bool) → (ℕ → Bool) → Bool → ℕ → Bool
carry_into generates passes c zero = c
carry_into generates passes c (suc k) = generates k || (passes k && carry_into generates passes c k)

-- that of the sum of the numbers with digits x and y
abbrev pub sum_carry : (ℕ → Bool) → (ℕ → Bool) → Bool → ℕ → Bool
sum_carry x y c k = carry_into (λ j. x j && y j) (λ j. differ (x j) (y j)) c k

-- digit k of that sum and of c, and x in an unknown lane
abbrev pub sum_digit : Bool → (ℕ → Bool) → (ℕ → Bool) → Bool → ℕ → Bit4
sum_digit unknown x y c k = if unknown then X else of_bool (sum_of (x k) (y k) (sum_carry x y c k))

-- the first w bits of a value that has bit f k at place k
unfoldable pub first_bits : (ℕ → Bit4) → ℕ → BitList
first_bits f w = map f (range_with_len 0 w)
