-- The operators on single bits (IEEE 1364-2005, tables 5-12 to 5-16 and 5-21).
use Rattle.std.specs.Prelude.{Bool, true, false, not, ◌||◌}
use Rattle.vs_four.specs.declared.Bit4.{Bit4}
use Rattle.vs_four.specs.declared.Bit4.TheVariants.{Zero, One, X, Z}

-- the two values are one
abbrev pub same : Bit4 → Bit4 → Bool
same Zero Zero = true
same One One = true
same X X = true
same Z Z = true
same _ _ = false

-- 0 or 1
abbrev pub is_known : Bit4 → Bool
is_known Zero = true
is_known One = true
is_known _ = false

abbrev pub is_one : Bit4 → Bool
is_one One = true
is_one _ = false

abbrev pub is_z : Bit4 → Bool
is_z Z = true
is_z _ = false

-- 1 for what holds, and 0 for what doesn't
abbrev pub of_bool : Bool → Bit4
of_bool true = One
of_bool false = Zero

-- `&`, table 5-12
abbrev pub and_bit : Bit4 → Bit4 → Bit4
and_bit Zero _ = Zero
and_bit _ Zero = Zero
and_bit One One = One
and_bit _ _ = X

-- `|`, table 5-13
abbrev pub or_bit : Bit4 → Bit4 → Bit4
or_bit One _ = One
or_bit _ One = One
or_bit Zero Zero = Zero
or_bit _ _ = X

-- `^`, table 5-14
abbrev pub xor_bit : Bit4 → Bit4 → Bit4
xor_bit Zero Zero = Zero
xor_bit Zero One = One
xor_bit One Zero = One
xor_bit One One = Zero
xor_bit _ _ = X

-- `~`, table 5-16
abbrev pub not_bit : Bit4 → Bit4
not_bit Zero = One
not_bit One = Zero
not_bit _ = X

-- `~^`, table 5-15
abbrev pub xnor_bit : Bit4 → Bit4 → Bit4
xnor_bit a b = not_bit (xor_bit a b)

-- one bit of `?:` under an unknown condition, table 5-21: equal known bits stay
abbrev pub merge_bit : Bit4 → Bit4 → Bit4
merge_bit Zero Zero = Zero
merge_bit One One = One
merge_bit _ _ = X

-- one bit of `===`, and of `case` (5.1.8, 9.5): bits as written
abbrev pub same_bit : Bit4 → Bit4 → Bit4
same_bit a b = of_bool (same a b)

-- one bit of `casez` (9.5.1): z on either side is no matter
abbrev pub casez_bit : Bit4 → Bit4 → Bit4
casez_bit a b = of_bool (is_z a || is_z b || same a b)

-- one bit of `casex` (9.5.1): x and z on either side are no matter
abbrev pub casex_bit : Bit4 → Bit4 → Bit4
casex_bit a b = of_bool (not (is_known a) || not (is_known b) || same a b)
