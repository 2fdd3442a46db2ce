-- Choices of a bit, and the bases of a select, lane by lane.
use Rattle.std.specs.Prelude.{ℕ, ◌-◌, Bool, false, ◌&&◌, ◌==◌, map, if◌then◌else◌, ℤ, pos, ◌+ℤ◌, ◌-ℤ◌, Option, Some, None}
use Rattle.std.proofs.Common.{int_eq}
use Rattle.vs_four.specs.declared.Bit4.{Bit4}
use Rattle.vs_four.specs.Tables.{is_one, not_bit, merge_bit}
use Rattle.vs_four.specs.Logic.{BitList, all_known}
use Rattle.vs_four.specs.Numbers.{number, integer}
use Rattle.vs_four.specs.Selects.{Part, is_descending}

-- one bit of a choice: p's in a lane that takes the first value, q's in another one that takes the second, and in the rest both merged
abbrev pub chosen_bit : Bool → Bool → Bit4 → Bit4 → Bit4
chosen_bit first second p q = if first then p else (if second then q else merge_bit p q)

-- whether a bit is this digit
abbrev pub has_digit : Bool → Bit4 → Bool
has_digit one b = is_one (if one then b else not_bit b)

-- all bits are known, and they are those of this number, or their inverses are
abbrev pub is_natural : Bool → BitList → ℕ → Bool
is_natural inverted a n = all_known a && number (if inverted then map not_bit a else a) == n

-- all bits are known, and they are those of this number
abbrev pub is_number : Bool → BitList → ℤ → Bool
is_number signed a v = all_known a && int_eq (integer signed a) v

-- the base by which this place is that of this bit of a part
abbrev pub base_by : Part → ℕ → ℕ → ℤ
base_by p place bit =
    let distance = pos place -ℤ pos bit in
    let spread = pos (p.width - 1) in
    if is_descending p.range
    then (if p.up then (pos p.range.right +ℤ distance) else ((pos p.range.right +ℤ distance) +ℤ spread))
    else (if p.up then ((pos p.range.right -ℤ distance) -ℤ spread) else (pos p.range.right -ℤ distance))

-- whether a bit has a place, and it is this one
abbrev pub is_place : ℕ → Option ℕ → Bool
is_place q None = false
is_place q (Some n) = n == q
