-- Selects and writes by an index of the declared range (IEEE 1364-2005, 5.2.1).
use Rattle.std.specs.Prelude.{ℕ, zero, suc, ◌-◌, Bool, true, List, [], ◌∷◌, map, get_or, set, replicate, if◌then◌else◌, nat_lt, nat_le, ℤ, pos, negsuc, ◌+ℤ◌, ◌-ℤ◌, Option, Some, None}
use Rattle.vs_four.specs.declared.Bit4.TheVariants.{X}
use Rattle.vs_four.specs.declared.Range.{Range}
use Rattle.vs_four.specs.Logic.{BitList, all_known}
use Rattle.vs_four.specs.Numbers.{integer}

-- `[7:0]`, and `[3:3]` too; else the range is ascending, as `[0:7]`. The right bound names the least significant bit (4.3)
abbrev pub is_descending : Range → Bool
is_descending r = nat_le r.right r.left

abbrev pub range_length : Range → ℕ
range_length r = if is_descending r then suc (r.left - r.right) else suc (r.right - r.left)

-- a number below the length
abbrev pub below : ℕ → ℤ → Option ℕ
below length (pos n) = if nat_lt n length then Some n else None
below length (negsuc n) = None

-- the place of the bit with this index, counted from the least significant bit; an index out of range has none
abbrev pub place_of : Range → ℤ → Option ℕ
place_of r i = below (range_length r) (if is_descending r then (i -ℤ pos r.right) else (pos r.right -ℤ i))

-- which bits a select takes: `[b +: width]`, or `[b -: width]`; a bit select is a part of one bit
pub record Part : Type 0 where
  pub range : Range
  pub up : Bool
  pub width : ℕ

-- the least index of a part, and the greatest
abbrev pub least_index : Part → ℤ → ℤ
least_index p b = if p.up then b else (b -ℤ pos (p.width - 1))

abbrev pub greatest_index : Part → ℤ → ℤ
greatest_index p b = if p.up then (b +ℤ pos (p.width - 1)) else b

-- this many indices, one after the other: upwards, or downwards
abbrev pub indices_up : ℤ → ℕ → List ℤ
indices_up i zero = []
indices_up i (suc n) = i ∷ indices_up (i +ℤ pos 1) n

abbrev pub indices_down : ℤ → ℕ → List ℤ
indices_down i zero = []
indices_down i (suc n) = i ∷ indices_down (i -ℤ pos 1) n

-- a part's indices, that of its least significant bit first
abbrev pub indices : Part → ℤ → List ℤ
indices p b = if is_descending p.range then indices_up (least_index p b) p.width else indices_down (greatest_index p b) p.width

-- the places of a part's bits; by an index with an x or z bit there are none
abbrev pub places : Part → Bool → BitList → List (Option ℕ)
places p signed index = if all_known index then map (place_of p.range) (indices p (integer signed index)) else replicate p.width None

-- the element at a place, and this one where there is no place
abbrev pub at_place : {A : Type 0} → A → List A → Option ℕ → A
at_place none xs None = none
at_place none xs (Some n) = get_or xs n none

-- a select: x where the index is unknown or out of range
abbrev pub select : Part → Bool → BitList → BitList → BitList
select p signed a index = map (at_place X a) (places p signed index)

-- the vector with these values at these places, one after the other
abbrev pub write_places : BitList → List (Option ℕ) → BitList → BitList
write_places a [] value = a
write_places a (place ∷ ps) [] = a
write_places a (None ∷ ps) (v ∷ vs) = write_places a ps vs
write_places a (Some n ∷ ps) (v ∷ vs) = write_places (set a n v) ps vs

-- a write to a select: what is out of range, or has an unknown index, changes nothing
abbrev pub write_select : Part → Bool → BitList → BitList → BitList → BitList
write_select p signed a index value = write_places a (places p signed index) value

-- a bit select as a part of one bit
abbrev pub one_bit : Range → Part
one_bit range = record { range = range; up = true; width = 1 }
