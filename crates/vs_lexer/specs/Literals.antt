-- Numbers (IEEE 1364-2005, 3.5.1), and the strings that are numbers (3.6). A byte past the end of a text reads as 0.
use Rattle.std.specs.Prelude.{ℕ, zero, suc, ◌+◌, ◌-◌, ◌*◌, ◌/◌, ◌%◌, ◌^◌, Bool, true, false, not, ◌&&◌, ◌||◌, if◌then◌else◌, ◌==◌, nat_le, nat_lt, List, [], ◌∷◌, ◌++◌, take, drop, replicate, slice_index, Option, Some, None}
use Rattle.std.specs.List.{fold, prefix_len, list_all}
use Rattle.vs_four.specs.declared.Bit4.{Bit4}
use Rattle.vs_four.specs.declared.Bit4.TheVariants.{Zero, One, X, Z}
use Rattle.vs_lexer.specs.declared.bytes.Base.{Base}
use Rattle.vs_lexer.specs.declared.bytes.Base.TheVariants.{Binary, Octal, Decimal, Hexadecimal}
use Rattle.vs_lexer.specs.declared.bytes.ByteClass.{ByteClass}
use Rattle.vs_lexer.specs.declared.bytes.ByteClass.TheVariants as class
use Rattle.vs_lexer.specs.declared.number.LiteralHead.{LiteralHead}
use Rattle.vs_lexer.specs.Strings.{is_quoted, is_short_string, string_size, string_value}
use Rattle.vs_lexer.specs.Classes.{is_digit, is_x, is_z, base_of, digit_value, begins_digits, is_in}

-- ---- the head of a number with a base: perhaps a size and blanks, a quote, perhaps `s`, a base, blanks

-- how many bytes the size has
abbrev pub size_length : List ℕ → ℕ
size_length text = if is_digit (slice_index text 0) then prefix_len (is_in class.Decimal) text else 0

-- where the quote has to stand
abbrev pub quote_place : List ℕ → ℕ
quote_place text = if is_digit (slice_index text 0) then size_length text + prefix_len (is_in class.Blank) (drop (size_length text) text) else 0

-- `s` or `S`
abbrev pub is_sign_mark : ℕ → Bool
is_sign_mark b = b == 115 || b == 83

-- the head whose base stands at p
abbrev pub head_at : List ℕ → Bool → ℕ → Option LiteralHead
head_at text signed p = elim (base_of (slice_index text p)) [
  | None ↦ None
  | Some base ↦ Some (record { size = size_length text; signed = signed; base = base; digits = p + 1 + prefix_len (is_in class.Blank) (drop (p + 1) text) })
]

-- the head that a text begins with; `'` is 39
abbrev pub head_of : List ℕ → Option LiteralHead
head_of text =
    let q = quote_place text in
    if slice_index text q == 39 then (if is_sign_mark (slice_index text (q + 1)) then head_at text true (q + 2) else head_at text false (q + 1)) else None

-- ---- digits

-- what may follow the first digit; of base d only decimal digits after one, and `_` alone after `x`, `z` or `?`
abbrev pub digits_class : Base → ℕ → ByteClass
digits_class Decimal first = if is_digit first then class.Decimal else class.Underscore
digits_class base first = class.Digits base

abbrev pub are_digits : Base → List ℕ → Bool
are_digits base [] = false
are_digits base (b ∷ bs) = begins_digits base b && list_all (is_in (digits_class base b)) bs

-- how many bytes at the front are digits
abbrev pub digits_length : Base → List ℕ → ℕ
digits_length base [] = 0
digits_length base (b ∷ bs) = if begins_digits base b then 1 + prefix_len (is_in (digits_class base b)) bs else 0

-- these bytes are a number with a base
abbrev pub is_based : List ℕ → Bool
is_based text = elim (head_of text) [ None ↦ false | Some h ↦ are_digits h.base (drop h.digits text) ]

-- a head begins the text, and no digit follows it
abbrev pub lacks_digits : List ℕ → Bool
lacks_digits text = elim (head_of text) [ None ↦ false | Some h ↦ digits_length h.base (drop h.digits text) == 0 ]

-- ---- values

-- a number with one more decimal digit behind it; `_` counts for nothing
abbrev pub with_digit : ℕ → ℕ → ℕ
with_digit n b = if b == 95 then n else 10 * n + (b - 48)

-- the number of decimal digits
abbrev pub decimal_value : List ℕ → ℕ
decimal_value digits = fold with_digit 0 digits

-- a size is 1 to 64
abbrev pub is_good_size : ℕ → Bool
is_good_size n = nat_le 1 n && nat_le n 64

abbrev pub is_decimal_number : Base → List ℕ → Bool
is_decimal_number Decimal digits = is_digit (slice_index digits 0)
is_decimal_number base digits = false

-- of what has no base: a string has eight characters at most, and an unsized decimal number is below 2^31
abbrev pub is_plain_in_range : List ℕ → Bool
is_plain_in_range text = if is_quoted text then is_short_string text else nat_lt (decimal_value text) (2 ^ 31)

-- The size and the value of a number are in range: besides, a size is 1 to 64, and digits of base d are below 2^64.
unfoldable pub is_in_range : List ℕ → Bool
is_in_range text = elim (head_of text) [
  | None ↦ is_plain_in_range text
  | Some h ↦ (h.size == 0 || is_good_size (decimal_value (take h.size text))) && (not (is_decimal_number h.base (drop h.digits text)) || nat_lt (decimal_value (drop h.digits text)) (2 ^ 64))
]

-- ---- bits, the least significant first

-- the low bits of a number
unfoldable pub number_bits : ℕ → ℕ → List Bit4
number_bits zero n = []
number_bits (suc w) n = (if n % 2 == 1 then One else Zero) ∷ number_bits w (n / 2)

-- how many bits a digit has; an `x` or `z` of base d has one, which then fills the number
abbrev pub digit_width : Base → ℕ
digit_width Binary = 1
digit_width Octal = 3
digit_width Decimal = 1
digit_width Hexadecimal = 4

abbrev pub digit_bits : Base → ℕ → List Bit4
digit_bits base b =
    if b == 95 then []
    else (if is_x b then replicate (digit_width base) X
    else (if is_z b then replicate (digit_width base) Z
    else number_bits (digit_width base) (digit_value b)))

abbrev pub all_digit_bits : Base → List ℕ → List Bit4
all_digit_bits base [] = []
all_digit_bits base (b ∷ bs) = all_digit_bits base bs ++ digit_bits base b

abbrev pub digits_bits : Base → List ℕ → List Bit4
digits_bits base digits = if is_decimal_number base digits then number_bits 64 (decimal_value digits) else all_digit_bits base digits

-- what a number is filled with on the left: `x` or `z` where its leftmost digit is that, or else 0
abbrev pub fill_bit : ℕ → Bit4
fill_bit b = if is_x b then X else (if is_z b then Z else Zero)

-- cut or filled on the left to a length
abbrev pub fitted : ℕ → Bit4 → List Bit4 → List Bit4
fitted size fill bits = take size (bits ++ replicate size fill)

-- the length in bits and the value of what has no base, a string or an unsized decimal number
abbrev pub plain_size : List ℕ → ℕ
plain_size text = if is_quoted text then string_size text else 32

abbrev pub plain_value : List ℕ → ℕ
plain_value text = if is_quoted text then string_value text else decimal_value text

-- the length in bits of a number: its size, that of a string, or else 32
unfoldable pub literal_size : List ℕ → ℕ
literal_size text = elim (head_of text) [ None ↦ plain_size text | Some h ↦ if h.size == 0 then 32 else decimal_value (take h.size text) ]

unfoldable pub literal_bits : List ℕ → List Bit4
literal_bits text = elim (head_of text) [
  | None ↦ number_bits (plain_size text) (plain_value text)
  | Some h ↦ let digits = drop h.digits text in fitted (literal_size text) (fill_bit (slice_index digits 0)) (digits_bits h.base digits)
]

-- an unsized decimal number is signed, and a number with a base where it has an `s`
unfoldable pub is_signed_literal : List ℕ → Bool
is_signed_literal text = elim (head_of text) [ None ↦ not (is_quoted text) | Some h ↦ h.signed ]

-- a size was written, or is that of a string
unfoldable pub has_size : List ℕ → Bool
has_size text = elim (head_of text) [ None ↦ is_quoted text | Some h ↦ not (h.size == 0) ]
