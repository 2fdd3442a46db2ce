-- Classes of bytes (IEEE 1364-2005, 3.2, 3.5.1 and 3.7).
use Rattle.std.specs.Prelude.{ℕ, ◌-◌, Bool, not, ◌&&◌, ◌||◌, if◌then◌else◌, ◌==◌, nat_le, nat_lt, Option, Some, None}
use Rattle.vs_lexer.specs.declared.bytes.Base.{Base}
use Rattle.vs_lexer.specs.declared.bytes.Base.TheVariants.{Binary, Octal, Decimal, Hexadecimal}
use Rattle.vs_lexer.specs.declared.bytes.ByteClass.{ByteClass}
use Rattle.vs_lexer.specs.declared.bytes.ByteClass.TheVariants as class

-- space, tab, LF, CR or form feed
abbrev pub is_blank : ℕ → Bool
is_blank b = b == 32 || b == 9 || b == 10 || b == 13 || b == 12

-- a letter or `_`
abbrev pub is_letter : ℕ → Bool
is_letter b = (nat_le 65 b && nat_le b 90) || (nat_le 97 b && nat_le b 122) || b == 95

abbrev pub is_digit : ℕ → Bool
is_digit b = nat_le 48 b && nat_le b 57

-- `x` or `X`
abbrev pub is_x : ℕ → Bool
is_x b = b == 120 || b == 88

-- `z`, `Z` or `?`
abbrev pub is_z : ℕ → Bool
is_z b = b == 122 || b == 90 || b == 63

-- the base of a letter: `b`, `o`, `d` or `h`, small or large
abbrev pub base_of : ℕ → Option Base
base_of b =
    if b == 98 || b == 66 then Some Binary
    else (if b == 111 || b == 79 then Some Octal
    else (if b == 100 || b == 68 then Some Decimal
    else (if b == 104 || b == 72 then Some Hexadecimal else None)))

abbrev pub radix : Base → ℕ
radix Binary = 2
radix Octal = 8
radix Decimal = 10
radix Hexadecimal = 16

-- what a digit counts; 16 at a byte that is none
abbrev pub digit_value : ℕ → ℕ
digit_value b = if is_digit b then b - 48 else (if nat_le 97 b && nat_le b 102 then b - 87 else (if nat_le 65 b && nat_le b 70 then b - 55 else 16))

-- a digit of the base, `x`, `z` or `?`: what the digits of a number may begin with
abbrev pub begins_digits : Base → ℕ → Bool
begins_digits base b = nat_lt (digit_value b) (radix base) || is_x b || is_z b

-- the bytes of a class; LF is 10, `$` is 36, `_` is 95
abbrev pub is_in : ByteClass → ℕ → Bool
is_in class.Blank b = is_blank b
is_in class.Visible b = not (is_blank b)
is_in class.Line b = not (b == 10)
is_in class.Name b = is_letter b || is_digit b || b == 36
is_in class.Decimal b = is_digit b || b == 95
is_in (class.Digits base) b = begins_digits base b || b == 95
is_in class.Underscore b = b == 95
