-- What the operators mean, in words of their own.
use Rattle.std.specs.Prelude.{◌≡◌, ◌≢◌, ◌↔◌, ◌⊎◌, ◌≤◌, ◌+◌, ◌^◌, ℕ, Bool, true, false, min, max, [], ◌∷◌, map, length, slice_get, All, Contains, ℤ, pos, ◌+ℤ◌, ◌-ℤ◌, ◌*ℤ◌, neg_ℤ, ◌<ℤ◌, ◌≤ℤ◌, int_div, int_rem, Some}
use Rattle.std.specs.Int.{int_rem_euclid}
use Rattle.vs_four.specs.declared.Bit4.{Bit4}
use Rattle.vs_four.specs.declared.Bit4.TheVariants.{Zero, One, X}
use Rattle.vs_four.specs.Tables.{is_known, and_bit, or_bit, xor_bit, not_bit}
use Rattle.vs_four.specs.Logic.{BitList, all_known, map2, equal, truth}
use Rattle.vs_four.specs.Lengths.{extend, cut}
use Rattle.vs_four.specs.Numbers.{number, integer, add, sub, mul, neg, div, rem, less}
use Rattle.vs_four.specs.Selects.{Part, range_length, least_index, greatest_index, select, write_select}

-- ---- arithmetic

-- the number modulo 2^w
abbrev pub modulo : ℕ → ℤ → ℤ
modulo w z = int_rem_euclid z (pos (2 ^ w))

-- two vectors of one length, without x and z
pub record AreKnown (a b : BitList) : Type 0 where
  pub first : all_known a ≡ true
  pub second : all_known b ≡ true
  pub same_length : length a ≡ length b

-- `+`, `-`, `*` and `-a` are those of the integers modulo 2^w, be they read as signed or not
abbrev pub SumIsModular : Type 0
SumIsModular = (signed : Bool) (a b : BitList) → AreKnown a b → pos (number (add a b)) ≡ modulo (length a) (integer signed a +ℤ integer signed b)

abbrev pub DifferenceIsModular : Type 0
DifferenceIsModular = (signed : Bool) (a b : BitList) → AreKnown a b → pos (number (sub a b)) ≡ modulo (length a) (integer signed a -ℤ integer signed b)

abbrev pub ProductIsModular : Type 0
ProductIsModular = (signed : Bool) (a b : BitList) → AreKnown a b → pos (number (mul a b)) ≡ modulo (length a) (integer signed a *ℤ integer signed b)

abbrev pub NegationIsModular : Type 0
NegationIsModular = (signed : Bool) (a : BitList) → all_known a ≡ true → pos (number (neg a)) ≡ modulo (length a) (neg_ℤ (integer signed a))

-- `/` and `%` are those of the integers, rounded towards zero, modulo 2^w
abbrev pub QuotientIsModular : Type 0
QuotientIsModular = (signed : Bool) (a b q : BitList) → div signed a b ≡ Some q → pos (number q) ≡ modulo (length a) (int_div (integer signed a) (integer signed b))

abbrev pub RemainderIsModular : Type 0
RemainderIsModular = (signed : Bool) (a b r : BitList) → rem signed a b ≡ Some r → pos (number r) ≡ modulo (length a) (int_rem (integer signed a) (integer signed b))

-- `a < b` is 1 where it holds of the integers, and 0 where it doesn't
abbrev pub ComparisonIsExact : Type 0
ComparisonIsExact = (signed : Bool) (a b : BitList) → AreKnown a b → ((less signed a b ≡ One) ↔ (integer signed a <ℤ integer signed b)) × ((less signed a b ≡ Zero) ↔ (integer signed b ≤ℤ integer signed a))

-- the integer of n + 1 bits has that number modulo 2^(n + 1); without a sign it is from 0 to 2^(n + 1) - 1, with one from -2^n to 2^n - 1
pub record IsTwosComplement (n : ℕ) (a : BitList) : Type 0 where
  pub congruent : (signed : Bool) → pos (number a) ≡ modulo (n + 1) (integer signed a)
  pub unsigned_least : pos 0 ≤ℤ integer false a
  pub unsigned_most : integer false a <ℤ pos (2 ^ (n + 1))
  pub signed_least : neg_ℤ (pos (2 ^ n)) ≤ℤ integer true a
  pub signed_most : integer true a <ℤ pos (2 ^ n)

abbrev pub IntegersAreTwosComplement : Type 0
IntegersAreTwosComplement = (n : ℕ) (a : BitList) → all_known a ≡ true → length a ≡ n + 1 → IsTwosComplement n a

-- ---- information

-- a bit that is known stays, one that is x or z may become any
abbrev pub KeepsBit : Bit4 → Bit4 → Type 0
KeepsBit a b = is_known a ≡ true → a ≡ b

-- each known bit stays
abbrev pub Keeps : BitList → BitList → Type 0
Keeps [] [] = Unit {0}
Keeps [] (y ∷ ys) = ⊥
Keeps (x ∷ xs) [] = ⊥
Keeps (x ∷ xs) (y ∷ ys) = KeepsBit x y × Keeps xs ys

-- where unknown bits of the operands become known, no known bit of the result changes
abbrev pub IsMonotone : (Bit4 → Bit4 → Bit4) → Type 0
IsMonotone op = (a b p q : BitList) → Keeps a p → Keeps b q → Keeps (map2 op a b) (map2 op p q)

pub record KnowledgeGrows : Type 0 where
  pub conjunction : IsMonotone and_bit
  pub disjunction : IsMonotone or_bit
  pub exclusive : IsMonotone xor_bit
  pub negation : (a p : BitList) → Keeps a p → Keeps (map not_bit a) (map not_bit p)

-- ---- equality and truth

-- at this place stand two known bits that differ
abbrev pub DifferAt : BitList → BitList → ℕ → Type 0
DifferAt a b n = (p : Bit4) × (q : Bit4) × (slice_get a n ≡ Some p) × (slice_get b n ≡ Some q) × (is_known p ≡ true) × (is_known q ≡ true) × (p ≢ q)

-- `a == b` is 0 where some place holds two different known bits, whatever stands elsewhere, 1 where all bits are known and the same, else x
abbrev pub EqualityInWords : Type 0
EqualityInWords = (a b : BitList) → length a ≡ length b
    → ((equal a b ≡ Zero) ↔ ((n : ℕ) × DifferAt a b n))
    × ((equal a b ≡ One) ↔ ((all_known a ≡ true) × (a ≡ b)))
    × ((equal a b ≡ Zero) ⊎ (equal a b ≡ One) ⊎ (equal a b ≡ X))

-- the truth is 1 where some bit is 1, 0 where all bits are 0, else x
abbrev pub TruthInWords : Type 0
TruthInWords = (a : BitList)
    → ((truth a ≡ One) ↔ Contains a One)
    × ((truth a ≡ Zero) ↔ All (λ b. b ≡ Zero) a)
    × ((truth a ≡ Zero) ⊎ (truth a ≡ One) ⊎ (truth a ≡ X))

-- ---- lengths and selects

-- what was extended and is cut to its old length is as it was
abbrev pub ExtendThenCut : Type 0
ExtendThenCut = (a : BitList) (w : ℕ) (signed : Bool) → length a ≤ w → cut (length a) (extend w signed a) ≡ a

-- all indices of the part are within the declared bounds
pub record IsWithin (p : Part) (index : ℤ) : Type 0 where
  pub least : pos (min p.range.left p.range.right) ≤ℤ least_index p index
  pub greatest : greatest_index p index ≤ℤ pos (max p.range.left p.range.right)

-- a select by the known, in-range index of a write gives the value that was written
abbrev pub WriteThenSelect : Type 0
WriteThenSelect = (p : Part) (signed : Bool) (a index value : BitList) → all_known index ≡ true → length a ≡ range_length p.range → length value ≡ p.width → 1 ≤ p.width → IsWithin p (integer signed index) → select p signed (write_select p signed a index value) index ≡ value
