-- Operators that go bit by bit, on lists of bits with the least significant one first (IEEE 1364-2005, 5.1.8 to 5.1.13 and 9.5).
use Rattle.std.specs.Prelude.{Bool, List, [], ◌∷◌}
use Rattle.std.specs.List.{list_all}
use Rattle.vs_four.specs.declared.Bit4.{Bit4}
use Rattle.vs_four.specs.declared.Bit4.TheVariants.{Zero, One}
use Rattle.vs_four.specs.Tables.{is_known, and_bit, or_bit, xor_bit, xnor_bit, merge_bit, same_bit, casez_bit, casex_bit}

-- the value of a vector, least significant bit first
abbrev pub BitList : Type 0
BitList = List Bit4

-- no bit is x or z
abbrev pub all_known : BitList → Bool
all_known a = list_all is_known a

-- f of each pair of elements
abbrev pub map2 : {A B C : Type 0} → (A → B → C) → List A → List B → List C
map2 f [] bs = []
map2 f (a ∷ xs) [] = []
map2 f (a ∷ xs) (b ∷ bs) = f a b ∷ map2 f xs bs

-- the operator over all elements, from a first value on
abbrev pub fold_with : {A : Type 0} → (A → A → A) → A → List A → A
fold_with f first [] = first
fold_with f first (a ∷ xs) = fold_with f (f first a) xs

-- the reductions `&`, `|` and `^` (5.1.11); `~&`, `~|` and `~^` are `not_bit` of these.
-- The fold begins with a value, so the reduction of a single z is x
abbrev pub reduce_and : BitList → Bit4
reduce_and a = fold_with and_bit One a

abbrev pub reduce_or : BitList → Bit4
reduce_or a = fold_with or_bit Zero a

abbrev pub reduce_xor : BitList → Bit4
reduce_xor a = fold_with xor_bit Zero a

-- the truth of a vector (5.1.9): 1 where some bit is 1, 0 where all bits are 0, else x
abbrev pub truth : BitList → Bit4
truth a = reduce_or a

-- `==` (5.1.8): 0 where two known bits differ, else x where a bit is unknown, else 1
abbrev pub equal : BitList → BitList → Bit4
equal a b = reduce_and (map2 xnor_bit a b)

-- `===` (5.1.8), and the match of `case` (9.5)
abbrev pub identical : BitList → BitList → Bit4
identical a b = reduce_and (map2 same_bit a b)

-- the match of `casez` (9.5.1)
abbrev pub matches_z : BitList → BitList → Bit4
matches_z a b = reduce_and (map2 casez_bit a b)

-- the match of `casex` (9.5.1)
abbrev pub matches_x : BitList → BitList → Bit4
matches_x a b = reduce_and (map2 casex_bit a b)

-- `c ? p : q` (5.1.13), by the truth of c
abbrev pub choose : Bit4 → BitList → BitList → BitList
choose One p q = p
choose Zero p q = q
choose _ p q = map2 merge_bit p q
