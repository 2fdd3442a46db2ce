-- Which known values of a selector the items of a case match, and the search that tells whether they match all of them.
use Rattle.std.specs.Prelude.{ℕ, zero, suc, ◌+◌, ◌*◌, ◌^◌, Bool, true, false, ◌&&◌, ◌||◌, List, [], ◌∷◌, ◌++◌, map, filter, length, take, drop, sum_by, get_or, if◌then◌else◌, nat_lt, Option, Some, None}
use Rattle.std.specs.List.{list_any, list_all}
use Rattle.vs_four.specs.declared.Bit4.{Bit4}
use Rattle.vs_four.specs.declared.Bit4.TheVariants.{Zero, One}
use Rattle.vs_four.specs.Logic.{BitList}
use Rattle.vs_four.specs.Tables.{is_one}
use Rattle.vs_design.specs.Statements.{CaseKind}
use Rattle.vs_design.specs.Sets.{Set4, has, none}
use Rattle.vs_design.specs.LiftedParts.{match_bit}

-- which of 0 and 1 match a bit of an item (9.5, 9.5.1)
abbrev pub matched : CaseKind → Bit4 → Set4
matched kind v = record { zero? = is_one (match_bit kind Zero v); one? = is_one (match_bit kind One v); x? = false; z? = false }

-- a pattern has for each bit of a selector those of 0 and 1 that match there
abbrev pub Pattern : Type 0
Pattern = List Set4

-- both match
abbrev pub is_free : Set4 → Bool
is_free s = s.zero? && s.one?

-- one of them does
abbrev pub is_open : Set4 → Bool
is_open s = s.zero? || s.one?

-- the pattern of an item's value, for a selector of n bits; there is none where no known bits match. Beyond these bits the selector is extended by 0
abbrev pub patterns_of : CaseKind → ℕ → BitList → List Pattern
patterns_of kind n v = let p = map (matched kind) v in if list_all is_open (take n p) && list_all (λ (s : Set4). s.zero?) (drop n p) then (take n p ∷ []) else []

-- these bits match the pattern
abbrev pub meets : Pattern → BitList → Bool
meets (s ∷ p) (v ∷ vs) = has s v && meets p vs
meets _ _ = true

-- how many lists of known bits match it
abbrev pub values_of : Pattern → ℕ
values_of [] = 1
values_of (s ∷ p) = (if is_free s then 2 else 1) * values_of p

-- the set of bit i
abbrev pub at_bit : ℕ → Pattern → Set4
at_bit i p = get_or p i none

-- how many patterns leave the bit free
abbrev pub free_in : ℕ → List Pattern → ℕ
free_in i ps = length (filter (λ p. is_free (at_bit i p)) ps)

-- of the bits 0 to n the one that the fewest leave free, and the least of these
abbrev pub least_free : ℕ → List Pattern → ℕ
least_free zero ps = 0
least_free (suc n) ps = let i = least_free n ps in if nat_lt (free_in (suc n) ps) (free_in i ps) then suc n else i

abbrev pub without_bit : ℕ → Pattern → Pattern
without_bit i p = take i p ++ drop (suc i) p

-- the patterns that match where bit i has this value, without the bit
abbrev pub half : Bit4 → ℕ → List Pattern → List Pattern
half v i ps = map (without_bit i) (filter (λ p. has (at_bit i p) v) ps)

abbrev pub one_more : Option ℕ → Option ℕ → Option ℕ
one_more (Some a) (Some b) = Some (suc (a + b))
one_more _ _ = None

-- In how many splits it is found that each list of n known bits matches one of the patterns, and nothing where it doesn't.
-- A pattern that is free in all bits matches all of them, and patterns that together have fewer values than there are don't. Else it is split on a bit.
abbrev pub splits : ℕ → List Pattern → Option ℕ
splits zero ps = if list_any (list_all is_free) ps then Some 0 else None
splits (suc n) ps =
    if list_any (list_all is_free) ps then Some 0
    else (if nat_lt (sum_by values_of ps) (2 ^ suc n) then None
    else (let i = least_free n ps in one_more (splits n (half Zero i ps)) (splits n (half One i ps))))

abbrev pub is_within : ℕ → Option ℕ → Bool
is_within limit (Some k) = nat_lt k limit
is_within limit None = false

-- it is found in fewer than 65,536 splits
abbrev pub covers : ℕ → List Pattern → Bool
covers n ps = is_within 65536 (splits n ps)
