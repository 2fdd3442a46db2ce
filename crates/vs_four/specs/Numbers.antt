-- Numbers of bits, arithmetic and comparison (IEEE 1364-2005, 5.1.5 to 5.1.7 and 17.11.1).
use Rattle.std.specs.Prelude.{ℕ, zero, suc, ◌+◌, ◌-◌, ◌*◌, ◌/◌, ◌%◌, ◌^◌, Bool, not, ◌&&◌, [], ◌∷◌, map, length, replicate, if◌then◌else◌, ◌==◌, nat_lt, ℤ, pos, negsuc, ◌-ℤ◌, int_lt, int_div, int_rem, Option, Some, None}
use Rattle.vs_four.specs.declared.Bit4.{Bit4}
use Rattle.vs_four.specs.declared.Bit4.TheVariants.{Zero, One, X}
use Rattle.vs_four.specs.Tables.{is_one, of_bool, not_bit}
use Rattle.vs_four.specs.Logic.{BitList, all_known}
use Rattle.vs_four.specs.Lengths.{last_or}

abbrev pub digit : Bit4 → ℕ
digit One = 1
digit _ = 0

-- the unsigned number of these bits
abbrev pub number : BitList → ℕ
number [] = 0
number (b ∷ bs) = digit b + 2 * number bs

-- the number of these bits, in two's complement where it is signed
abbrev pub integer : Bool → BitList → ℤ
integer signed a = if signed && is_one (last_or Zero a) then pos (number a) -ℤ pos (2 ^ length a) else pos (number a)

-- the low w bits of a number
abbrev pub bits_of : ℕ → ℕ → BitList
bits_of zero n = []
bits_of (suc w) n = of_bool (n % 2 == 1) ∷ bits_of w (n / 2)

-- the low w bits of a number with a sign, in two's complement
abbrev pub bits_of_integer : ℕ → ℤ → BitList
bits_of_integer w (pos n) = bits_of w n
bits_of_integer w (negsuc n) = map not_bit (bits_of w n)

abbrev pub all_x : ℕ → BitList
all_x w = replicate w X

-- this value where the operands are known, or else all x
abbrev pub if_known : Bool → ℕ → BitList → BitList
if_known known w a = if known then a else all_x w

-- `a + b` modulo 2^w
abbrev pub add : BitList → BitList → BitList
add a b = if_known (all_known a && all_known b) (length a) (bits_of (length a) (number a + number b))

-- `a - b` modulo 2^w
abbrev pub sub : BitList → BitList → BitList
sub a b = if_known (all_known a && all_known b) (length a) (bits_of (length a) ((number a + 2 ^ length a) - number b))

-- `a * b` modulo 2^w
abbrev pub mul : BitList → BitList → BitList
mul a b = if_known (all_known a && all_known b) (length a) (bits_of (length a) (number a * number b))

-- `-a` modulo 2^w
abbrev pub neg : BitList → BitList
neg a = if_known (all_known a) (length a) (bits_of (length a) (2 ^ length a - number a))

-- `a < b` (5.1.7), signed where both operands are
abbrev pub less : Bool → BitList → BitList → Bit4
less signed a b = if all_known a && all_known b then of_bool (int_lt (integer signed a) (integer signed b)) else X

-- whether `a / b` has a value
abbrev pub has_quotient : BitList → BitList → Bool
has_quotient a b = all_known a && all_known b && not (number b == 0)

-- `/` truncates towards zero (5.1.5)
abbrev pub div : Bool → BitList → BitList → Option BitList
div signed a b = if has_quotient a b then Some (bits_of_integer (length a) (int_div (integer signed a) (integer signed b))) else None

-- `%` has the sign of the first operand (5.1.5)
abbrev pub rem : Bool → BitList → BitList → Option BitList
rem signed a b = if has_quotient a b then Some (bits_of_integer (length a) (int_rem (integer signed a) (integer signed b))) else None

-- a base to a negative power (5.1.5, table 5-6): nothing for 0, 1 for 1, 1 or -1 for -1, as the exponent is even or odd, and 0 for any other
abbrev pub reciprocal : ℤ → ℕ → Option ℤ
reciprocal (pos zero) exponent = None
reciprocal (pos (suc zero)) exponent = Some (pos 1)
reciprocal (pos (suc (suc n))) exponent = Some (pos 0)
reciprocal (negsuc zero) exponent = Some (if exponent % 2 == 0 then pos 1 else negsuc 0)
reciprocal (negsuc (suc n)) exponent = Some (pos 0)

-- the low w bits of a number with a sign, where there is one
abbrev pub bits_if_any : ℕ → Option ℤ → Option BitList
bits_if_any w None = None
bits_if_any w (Some z) = Some (bits_of_integer w z)

-- known bits to a power (table 5-6), modulo 2^w: for an exponent that isn't negative it is the same be the base signed or not
abbrev pub raised : Bool → BitList → ℤ → Option BitList
raised signed base (pos n) = Some (bits_of (length base) (number base ^ n))
raised signed base (negsuc n) = bits_if_any (length base) (reciprocal (integer signed base) (suc n))

-- `a ** b` (5.1.5): the base is signed or not, and the exponent by itself
abbrev pub pow : Bool → Bool → BitList → BitList → Option BitList
pow signed exponent_signed a b = if all_known a && all_known b then raised signed a (integer exponent_signed b) else None

-- the least n up to `most` for which 2^n reaches v
abbrev pub log_up : ℕ → ℕ → ℕ
log_up zero v = 0
log_up (suc most) v = if nat_lt 1 v then suc (log_up most ((v + 1) / 2)) else 0

-- `$clog2` (17.11.1): 0 for 0, else the least n for which 2^n reaches the unsigned number
abbrev pub clog2 : BitList → Option ℕ
clog2 a = if all_known a then Some (log_up (length a) (number a)) else None
