-- Sums of numbers, digit by digit.
use Rattle.std.proofs.Common.{◌≡◌, ℕ, zero, suc, ◌+◌, ◌-◌, ◌*◌, ◌/◌, ◌%◌, ◌^◌, ◌<◌, Bool, true, false, not, ◌&&◌, ◌||◌, ◌==◌, if◌then◌else◌, [], ◌∷◌, map, length, get_or, drop, replicate, refl, sym, ap, ap₂, ◌∙◌, arith, add-one}
use Rattle.std.proofs.lemmas.Bool.{and_parts}
use Rattle.std.proofs.Math.Nat.{pow-suc}
use Rattle.vs_four.specs.declared.Bit4.{Bit4}
use Rattle.vs_four.specs.declared.Bit4.TheVariants.{Zero, One, X, Z}
use Rattle.vs_four.specs.Tables.{is_known, of_bool, not_bit}
use Rattle.vs_four.specs.Logic.{BitList, all_known}
use Rattle.vs_four.specs.Numbers.{digit, number, bits_of, if_known, sub, neg}
use Rattle.vs_plane.specs.Bits.{differ}
use Rattle.vs_plane.specs.Lanes.{value_bit}
use Rattle.vs_kern_arith.specs.Digits.{bit, sum_of, carry_of, second, total, summed}

-- ---- digits

digit-known : (b : Bit4) → is_known b ≡ true → digit b ≡ bit (value_bit b)
digit-known Zero h = refl
digit-known One h = refl
digit-known X h = cc
digit-known Z h = cc

known_at : (a : BitList) (k : ℕ) → all_known a ≡ true → is_known (get_or a k Zero) ≡ true
known_at [] k h = refl
known_at (x ∷ xs) zero h = (and_parts (is_known x) (all_known xs) h).0
known_at (x ∷ xs) (suc k) h = known_at xs k (and_parts (is_known x) (all_known xs) h).1

number-drop : (a : BitList) (k : ℕ) → number (drop k a) ≡ digit (get_or a k Zero) + 2 * number (drop (suc k) a)
number-drop [] zero = refl
number-drop [] (suc k) = refl
number-drop (x ∷ xs) zero = refl
number-drop (x ∷ xs) (suc k) = number-drop xs k

-- what is left of a number is its next digit, and twice what is left then
pub digits_of : (a : BitList) (k : ℕ) → all_known a ≡ true → number (drop k a) ≡ bit (value_bit (get_or a k Zero)) + 2 * number (drop (k + 1) a)
digits_of a k h =
    number-drop a k
    ∙ ap₂ (λ (d m : ℕ). d + 2 * number (drop m a)) (digit-known (get_or a k Zero) (known_at a k h)) (sym (add-one k))

-- ---- sums of digits

pub half_of : (x y c : Bool) (p q n : ℕ) → n ≡ bit x + 2 * p + (bit y + 2 * q) + bit c → n / 2 ≡ p + q + bit (carry_of x y c)
half_of true true true p q n h = omega (arith, h)
half_of true true false p q n h = omega (arith, h)
half_of true false true p q n h = omega (arith, h)
half_of true false false p q n h = omega (arith, h)
half_of false true true p q n h = omega (arith, h)
half_of false true false p q n h = omega (arith, h)
half_of false false true p q n h = omega (arith, h)
half_of false false false p q n h = omega (arith, h)

pub is_odd : (n : ℕ) → n % 2 ≡ 1 → (n % 2 == 1) ≡ true
is_odd n h = ap (λ (m : ℕ). m == 1) h

pub is_even : (n : ℕ) → n % 2 ≡ 0 → (n % 2 == 1) ≡ false
is_even n h = ap (λ (m : ℕ). m == 1) h

pub odd_of : (x y c : Bool) (p q n : ℕ) → n ≡ bit x + 2 * p + (bit y + 2 * q) + bit c → (n % 2 == 1) ≡ sum_of x y c
odd_of true true true p q n h = is_odd n (omega (arith, h))
odd_of true true false p q n h = is_even n (omega (arith, h))
odd_of true false true p q n h = is_even n (omega (arith, h))
odd_of true false false p q n h = is_odd n (omega (arith, h))
odd_of false true true p q n h = is_even n (omega (arith, h))
odd_of false true false p q n h = is_odd n (omega (arith, h))
odd_of false false true p q n h = is_odd n (omega (arith, h))
odd_of false false false p q n h = is_even n (omega (arith, h))

-- ---- a number halved k times

abbrev pub halved : ℕ → ℕ → ℕ
halved zero n = n
halved (suc k) n = halved k (n / 2)

pub halved_once_more : (k n : ℕ) → halved (suc k) n ≡ halved k n / 2
halved_once_more zero n = refl
halved_once_more (suc k) n = halved_once_more k (n / 2)

pub get_or-bits_of : (w k n : ℕ) → k < w → get_or (bits_of w n) k X ≡ of_bool (halved k n % 2 == 1)
get_or-bits_of zero k n h = absurd (let e : ⊥ = omega arith in e)
get_or-bits_of (suc w) zero n h = refl
get_or-bits_of (suc w) (suc k) n h = get_or-bits_of w k (n / 2) (omega arith)

pub get_or-all_x : (w k : ℕ) → get_or (replicate w X) k X ≡ X
get_or-all_x zero k = refl
get_or-all_x (suc w) zero = refl
get_or-all_x (suc w) (suc k) = get_or-all_x w k

-- ---- the second operand

known-not : (a : BitList) → all_known a ≡ true → all_known (map not_bit a) ≡ true
known-not [] h = refl
known-not (Zero ∷ xs) h = known-not xs h
known-not (One ∷ xs) h = known-not xs h
known-not (X ∷ xs) h = cc
known-not (Z ∷ xs) h = cc

known-second : (inverted : Bool) (b : BitList) → all_known b ≡ true → all_known (second inverted b) ≡ true
known-second true b h = known-not b h
known-second false b h = h

not_at : (b : BitList) (k : ℕ) → k < length b → all_known b ≡ true → value_bit (get_or (map not_bit b) k Zero) ≡ not (value_bit (get_or b k Zero))
not_at [] k h known = absurd (let e : ⊥ = omega arith in e)
not_at (Zero ∷ xs) zero h known = refl
not_at (One ∷ xs) zero h known = refl
not_at (X ∷ xs) zero h known = cc
not_at (Z ∷ xs) zero h known = cc
not_at (x ∷ xs) (suc k) h known = not_at xs k (omega arith) (and_parts (is_known x) (all_known xs) known).1

second_at : (inverted : Bool) (b : BitList) (k : ℕ) → k < length b → all_known b ≡ true → value_bit (get_or (second inverted b) k Zero) ≡ differ inverted (value_bit (get_or b k Zero))
second_at true b k h known = not_at b k h known
second_at false b k h known = refl

-- ---- a turn: one more place

-- what is left of a sum after k places
abbrev pub IsLeft : Bool → BitList → BitList → ℕ → Bool → Type 0
IsLeft inverted a b k c = halved k (total inverted a b) ≡ number (drop k a) + number (drop k (second inverted b)) + bit c

turn : (inverted : Bool) (a b : BitList) (k : ℕ) (c : Bool) → k < length b → all_known a ≡ true → all_known b ≡ true
    → IsLeft inverted a b k c
    → halved k (total inverted a b) ≡ bit (value_bit (get_or a k Zero)) + 2 * number (drop (k + 1) a) + (bit (differ inverted (value_bit (get_or b k Zero))) + 2 * number (drop (k + 1) (second inverted b))) + bit c
turn inverted a b k c h known_a known_b left =
    let low : number (drop k (second inverted b)) ≡ bit (differ inverted (value_bit (get_or b k Zero))) + 2 * number (drop (k + 1) (second inverted b)) =
    digits_of (second inverted b) k (known-second inverted b known_b) ∙ ap (λ (v : Bool). bit v + 2 * number (drop (k + 1) (second inverted b))) (second_at inverted b k h known_b) in
    left ∙ ap₂ (λ (m n : ℕ). m + n + bit c) (digits_of a k known_a) low

pub left_next : (inverted : Bool) (a b : BitList) (k : ℕ) (c : Bool) → k < length b → all_known a ≡ true → all_known b ≡ true
    → IsLeft inverted a b k c
    → IsLeft inverted a b (k + 1) (carry_of (value_bit (get_or a k Zero)) (differ inverted (value_bit (get_or b k Zero))) c)
left_next inverted a b k c h known_a known_b left =
    ap (λ (m : ℕ). halved m (total inverted a b)) (add-one k)
    ∙ halved_once_more k (total inverted a b)
    ∙ half_of (value_bit (get_or a k Zero)) (differ inverted (value_bit (get_or b k Zero))) c (number (drop (k + 1) a)) (number (drop (k + 1) (second inverted b))) (halved k (total inverted a b)) (turn inverted a b k c h known_a known_b left)

digit_is : (inverted : Bool) (a b : BitList) (k : ℕ) (c : Bool) → k < length b → all_known a ≡ true → all_known b ≡ true
    → IsLeft inverted a b k c
    → (halved k (total inverted a b) % 2 == 1) ≡ sum_of (value_bit (get_or a k Zero)) (differ inverted (value_bit (get_or b k Zero))) c
digit_is inverted a b k c h known_a known_b left =
    odd_of (value_bit (get_or a k Zero)) (differ inverted (value_bit (get_or b k Zero))) c (number (drop (k + 1) a)) (number (drop (k + 1) (second inverted b))) (halved k (total inverted a b)) (turn inverted a b k c h known_a known_b left)

-- whether some bit of the two is unknown
abbrev pub some_unknown : Bool → Bool → Bool
some_unknown known_a known_b = (false || not known_a) || not known_b

place_of : (p q : Bool) (w k n : ℕ) (s : Bool) → k < w → (p ≡ true → q ≡ true → (halved k n % 2 == 1) ≡ s)
    → (if some_unknown p q then X else of_bool s) ≡ get_or (if_known (p && q) w (bits_of w n)) k X
place_of true true w k n s h is = ap of_bool (sym (is refl refl)) ∙ sym (get_or-bits_of w k n h)
place_of true false w k n s h is = sym (get_or-all_x w k)
place_of false q w k n s h is = sym (get_or-all_x w k)

-- the bit that is stored at place k
pub place_is : (inverted : Bool) (w : ℕ) (a b : BitList) (k : ℕ) (c : Bool) → k < w → k < length b
    → (all_known a ≡ true → all_known b ≡ true → IsLeft inverted a b k c)
    → (if some_unknown (all_known a) (all_known b) then X else of_bool (sum_of (value_bit (get_or a k Zero)) (differ inverted (value_bit (get_or b k Zero))) c))
    ≡ get_or (summed inverted w a b) k X
place_is inverted w a b k c h in_b left =
    place_of (all_known a) (all_known b) w k (total inverted a b) _ h (λ p q. digit_is inverted a b k c in_b p q (left p q))

pub length-bits_of : (w n : ℕ) → length (bits_of w n) ≡ w
length-bits_of zero n = refl
length-bits_of (suc w) n = ap suc (length-bits_of w (n / 2))

pub length-all_x : (w : ℕ) → length (replicate w X) ≡ w
length-all_x zero = refl
length-all_x (suc w) = ap suc (length-all_x w)

pub length-summed : (inverted : Bool) (w : ℕ) (a b : BitList) → length (summed inverted w a b) ≡ w
length-summed inverted w a b = at (all_known a && all_known b) where
  at : (known : Bool) → length (if_known known w (bits_of w (total inverted a b))) ≡ w
  at true = length-bits_of w (total inverted a b)
  at false = length-all_x w

-- ---- differences

number-not : (a : BitList) → all_known a ≡ true → number (map not_bit a) + number a + 1 ≡ 2 ^ length a
number-not [] h = refl
number-not (Zero ∷ xs) h = omega (arith, number-not xs h, pow-suc 2 (length xs))
number-not (One ∷ xs) h = omega (arith, number-not xs h, pow-suc 2 (length xs))
number-not (X ∷ xs) h = cc
number-not (Z ∷ xs) h = cc

pub sub_is : (a b : BitList) → length b ≡ length a → summed true (length a) a b ≡ sub a b
sub_is a b h = at (all_known a) (all_known b) refl where
  at : (p q : Bool) → all_known b ≡ q
      → if_known (p && q) (length a) (bits_of (length a) (total true a b)) ≡ if_known (p && q) (length a) (bits_of (length a) ((number a + 2 ^ length a) - number b))
  at true true e =
      let power : 2 ^ length b ≡ 2 ^ length a = ap (λ (n : ℕ). 2 ^ n) h in
      let same : total true a b ≡ (number a + 2 ^ length a) - number b = omega (arith, number-not b e, power) in
      ap (λ (n : ℕ). bits_of (length a) n) same
  at true false e = refl
  at false q e = refl

pub neg_is : (a : BitList) → summed true (length a) [] a ≡ neg a
neg_is a = at (all_known a) refl where
  at : (q : Bool) → all_known a ≡ q
      → if_known q (length a) (bits_of (length a) (total true [] a)) ≡ if_known q (length a) (bits_of (length a) (2 ^ length a - number a))
  at true e =
      let same : total true [] a ≡ 2 ^ length a - number a = omega (arith, number-not a e) in
      ap (λ (n : ℕ). bits_of (length a) n) same
  at false e = refl
