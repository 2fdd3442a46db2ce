-- Sets of values of a bit, and the operators lifted to them: a lifted operator gives a set that has every value which the operator gives of members.
use Rattle.std.specs.Prelude.{ℕ, zero, suc, Bool, true, false, not, ◌&&◌, ◌||◌, List, [], ◌∷◌, length, replicate, take, drop, if◌then◌else◌}
use Rattle.std.specs.List.{list_any, list_all}
use Rattle.vs_four.specs.declared.Bit4.{Bit4}
use Rattle.vs_four.specs.declared.Bit4.TheVariants.{Zero, One, X, Z}
use Rattle.vs_four.specs.Tables.{and_bit, or_bit, xor_bit, merge_bit}
use Rattle.vs_four.specs.Logic.{map2, fold_with}
use Rattle.vs_four.specs.Shifts.{move_up, move_down}

-- which of the four values are in the set
pub record Set4 : Type 0 where
  pub zero? : Bool
  pub one? : Bool
  pub x? : Bool
  pub z? : Bool

abbrev pub has : Set4 → Bit4 → Bool
has s Zero = s.zero?
has s One = s.one?
has s X = s.x?
has s Z = s.z?

abbrev pub none : Set4
none = record { zero? = false; one? = false; x? = false; z? = false }

abbrev pub only : Bit4 → Set4
only Zero = record { zero? = true; one? = false; x? = false; z? = false }
only One = record { zero? = false; one? = true; x? = false; z? = false }
only X = record { zero? = false; one? = false; x? = true; z? = false }
only Z = record { zero? = false; one? = false; x? = false; z? = true }

-- {0, 1} and {0, 1, x}
abbrev pub known_set : Set4
known_set = record { zero? = true; one? = true; x? = false; z? = false }

abbrev pub any_result : Set4
any_result = record { zero? = true; one? = true; x? = true; z? = false }

abbrev pub any_value : Set4
any_value = record { zero? = true; one? = true; x? = true; z? = true }

abbrev pub union : Set4 → Set4 → Set4
union s t = record { zero? = s.zero? || t.zero?; one? = s.one? || t.one?; x? = s.x? || t.x?; z? = s.z? || t.z? }

abbrev pub when : Bool → Set4 → Set4
when b s = record { zero? = b && s.zero?; one? = b && s.one?; x? = b && s.x?; z? = b && s.z? }

-- f of all members
abbrev pub image : (Bit4 → Bit4) → Set4 → Set4
image f s = union (when s.zero? (only (f Zero))) (union (when s.one? (only (f One))) (union (when s.x? (only (f X))) (when s.z? (only (f Z)))))

abbrev pub image2 : (Bit4 → Bit4 → Bit4) → Set4 → Set4 → Set4
image2 f s t = union (when s.zero? (image (f Zero) t)) (union (when s.one? (image (f One) t)) (union (when s.x? (image (f X) t)) (when s.z? (image (f Z) t))))

-- within {x, z}, and within {0, 1}
abbrev pub is_unknown_set : Set4 → Bool
is_unknown_set s = not s.zero? && not s.one?

abbrev pub is_known_set : Set4 → Bool
is_known_set s = not s.x? && not s.z?

-- exactly {x}
abbrev pub is_only_x : Set4 → Bool
is_only_x s = (not s.zero? && not s.one?) && (s.x? && not s.z?)

-- exactly {1}
abbrev pub is_only_one : Set4 → Bool
is_only_one s = (not s.zero? && s.one?) && (not s.x? && not s.z?)

abbrev pub all_of : List Set4 → Set4
all_of [] = none
all_of (s ∷ ss) = union s (all_of ss)

abbrev pub fold_sets : (Bit4 → Bit4 → Bit4) → Bit4 → List Set4 → Set4
fold_sets f first ss = fold_with (image2 f) (only first) ss

-- lifted reductions: the images, folded. The truth is that of `|`
abbrev pub set_and : List Set4 → Set4
set_and ss = fold_sets and_bit One ss

abbrev pub set_or : List Set4 → Set4
set_or ss = fold_sets or_bit Zero ss

abbrev pub set_xor : List Set4 → Set4
set_xor ss = fold_sets xor_bit Zero ss

-- of so many words of k bits, one after the other, the union bit by bit
abbrev pub all_words : ℕ → ℕ → List Set4 → List Set4
all_words k zero ss = replicate k none
all_words k (suc n) ss = map2 union (take k ss) (all_words k n (drop k ss))

-- each bit of a lifted sum, difference, product or comparison, by all bits of its operands: {x} if one has only x or z, {0, 1} if all are within {0, 1}, else {0, 1, x}
abbrev pub arithmetic : List Set4 → Set4
arithmetic ss = if list_any is_unknown_set ss then only X else (if list_all is_known_set ss then known_set else any_result)

-- lifted equalities and matches: the images of the bits, folded by `&`
abbrev pub set_match : (Bit4 → Bit4 → Bit4) → List Set4 → List Set4 → Set4
set_match f ss ts = set_and (map2 (image2 f) ss ts)

-- by an index or an amount that isn't constant: {x} if one of its bits has only x or z, else this union, with x unless it is sure
abbrev pub variable : List Set4 → Bool → Set4 → Set4
variable index sure s = if list_any is_unknown_set index then only X else (if sure then s else union (only X) s)

-- a lifted shift by a constant amount moves the sets, or gives {x} where the amount has an x or z bit; by any other it is the union of the bits and the fill, with x unless the amount is surely known
abbrev pub set_shift_by : Bool → Bool → Set4 → ℕ → List Set4 → List Set4
set_shift_by known left fill n ss = if known then (if left then move_up fill n ss else move_down fill n ss) else replicate (length ss) (only X)

abbrev pub set_shift : Set4 → List Set4 → List Set4 → List Set4
set_shift fill amount ss = replicate (length ss) (variable amount (list_all is_known_set amount) (union fill (all_of ss)))

-- lifted `?:`: the union over the members of the condition's truth set, bit by bit
abbrev pub set_choose : Set4 → List Set4 → List Set4 → List Set4
set_choose c ps qs = map2 (λ s t. union (when c.one? s) (union (when c.zero? t) (when (c.x? || c.z?) (image2 merge_bit s t)))) ps qs
