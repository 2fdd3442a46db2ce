-- A shift by stages, in the order in which a stage goes over the places.
use Rattle.std.specs.Prelude.{ℕ, Bool, List, length, map, reverse, if◌then◌else◌}
use Rattle.vs_four.specs.declared.Bit4.{Bit4}
use Rattle.vs_four.specs.declared.Bit4.TheVariants.{X}
use Rattle.vs_four.specs.Logic.{BitList, all_known}
use Rattle.vs_four.specs.Numbers.{if_known}
use Rattle.vs_four.specs.Shifts.{distance, move_up, move_down}

-- the places in the order of the turns: from the most significant one down for a shift left, from the least significant one up for one
-- right; so in this order either is a move down
abbrev pub turns : {A : Type 0} → Bool → List A → List A
turns left xs = if left then reverse xs else xs

-- a bit before the moves: x where the amount is unknown, the fill where the amount moves each bit out, else the bit
abbrev pub first_bit : Bool → Bool → Bit4 → Bit4 → Bit4
first_bit unknown out fill b = if unknown then X else if out then fill else b

abbrev pub first : Bool → Bool → Bit4 → BitList → BitList
first unknown out fill a = map (first_bit unknown out fill) a

-- a vector in the order of the turns, moved n places where this says so
abbrev pub moved : Bool → Bit4 → ℕ → BitList → BitList
moved moves fill n xs = if moves then move_down fill n xs else xs

-- a shift either way, filled with this bit
abbrev pub shifted : Bool → Bit4 → BitList → BitList → BitList
shifted left fill a amount =
    if_known (all_known amount) (length a) (if left then move_up fill (distance (length a) amount) a else move_down fill (distance (length a) amount) a)
