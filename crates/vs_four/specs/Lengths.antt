-- Lengths: extension, truncation and concatenation (IEEE 1364-2005, 5.4, 5.1.14 and 3.5.1).
use Rattle.std.specs.Prelude.{ℕ, zero, suc, ◌-◌, Bool, not, ◌&&◌, ◌||◌, List, [], ◌∷◌, ◌++◌, length, take, replicate, if◌then◌else◌}
use Rattle.vs_four.specs.declared.Bit4.TheVariants.{Zero}
use Rattle.vs_four.specs.Tables.{is_known}
use Rattle.vs_four.specs.Logic.{BitList}

-- the last element, which is the most significant one, or d where there is none
abbrev pub last_or : {A : Type 0} → A → List A → A
last_or d [] = d
last_or d (a ∷ xs) = last_or a xs

-- made w elements long by this element; a list that is as long stays
abbrev pub extend_with : {A : Type 0} → A → ℕ → List A → List A
extend_with fill w xs = xs ++ replicate (w - length xs) fill

-- extended to w bits (5.4.1): signed by the top bit, be it x or z, else by 0
abbrev pub extend : ℕ → Bool → BitList → BitList
extend w signed a = extend_with (if signed then last_or Zero a else Zero) w a

-- a literal without a size whose top bit is x or z is extended by that bit (3.5.1)
abbrev pub extend_literal : ℕ → Bool → Bool → BitList → BitList
extend_literal w signed sized a = extend w (signed || (not sized && not (is_known (last_or Zero a)))) a

-- the low w bits
abbrev pub cut : {A : Type 0} → ℕ → List A → List A
cut w xs = take w xs

-- `{high, low}`
abbrev pub join : {A : Type 0} → List A → List A → List A
join high low = low ++ high

-- `{n{a}}`
abbrev pub repeat : {A : Type 0} → ℕ → List A → List A
repeat zero xs = []
repeat (suc n) xs = xs ++ repeat n xs
