-- Shifts (IEEE 1364-2005, 5.1.12): by an amount with an x or z bit all bits are x.
use Rattle.std.specs.Prelude.{ℕ, List, ◌++◌, length, take, drop, replicate, if◌then◌else◌, nat_lt}
use Rattle.vs_four.specs.declared.Bit4.TheVariants.{Zero}
use Rattle.vs_four.specs.Logic.{BitList, all_known}
use Rattle.vs_four.specs.Lengths.{last_or}
use Rattle.vs_four.specs.Numbers.{number, if_known}

-- n places up, filled from below; the length stays
abbrev pub move_up : {A : Type 0} → A → ℕ → List A → List A
move_up fill n xs = take (length xs) (replicate n fill ++ xs)

-- n places down, filled from above; the length stays
abbrev pub move_down : {A : Type 0} → A → ℕ → List A → List A
move_down fill n xs = take (length xs) (drop n xs ++ replicate (length xs) fill)

-- a shift by more than the length is one by the length
abbrev pub distance : ℕ → BitList → ℕ
distance w amount = if nat_lt w (number amount) then w else number amount

-- `a << amount`, and `a <<< amount`
abbrev pub shift_left : BitList → BitList → BitList
shift_left a amount = if_known (all_known amount) (length a) (move_up Zero (distance (length a) amount) a)

-- `a >> amount`, and `a >>> amount` of an unsigned a
abbrev pub shift_right : BitList → BitList → BitList
shift_right a amount = if_known (all_known amount) (length a) (move_down Zero (distance (length a) amount) a)

-- `a >>> amount` of a signed a
abbrev pub shift_arith : BitList → BitList → BitList
shift_arith a amount = if_known (all_known amount) (length a) (move_down (last_or Zero a) (distance (length a) amount) a)
