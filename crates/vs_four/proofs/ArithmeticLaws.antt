-- The arithmetic operators are those of the integers.
use Rattle.std.proofs.Common.{◌≡◌, ◌↔◌, ◌⊎◌, ℕ, zero, suc, ◌+◌, ◌-◌, ◌*◌, ◌/◌, ◌%◌, ◌^◌, ◌<◌, ◌≤◌, Bool, true, false, ◌&&◌, ◌==◌, if◌then◌else◌, [], ◌∷◌, length, map, ℤ, pos, negsuc, ◌+ℤ◌, ◌-ℤ◌, ◌*ℤ◌, neg_ℤ, ◌<ℤ◌, ◌≤ℤ◌, int_lt, Some, None, inl, inr, refl, sym, ap, ap₂, add-one, ◌∙◌, subst, arith}
use Rattle.std.proofs.lemmas.Int.{ints, int_rem_euclid_is, by_lt_z}
use Rattle.std.proofs.lemmas.Nat.{pow_pos, mod-pow-add}
use Rattle.std.proofs.lemmas.Bool.{and_parts}
use Rattle.std.proofs.Math.Nat.{pow-suc, add-mul-mod_self_right, mod-eq_of_lt, mul-add, mul_comm}
use Rattle.std.proofs.Math.IntN.{*ℤ_comm}
use Rattle.std.proofs.lemmas.Grind.{pow_more}
use Rattle.vs_four.specs.declared.Bit4.{Bit4}
use Rattle.vs_four.specs.declared.Bit4.TheVariants.{Zero, One, X, Z}
use Rattle.vs_four.specs.PlanesBack.{by_bit}
use Rattle.vs_four.specs.Tables.{is_known, is_one, of_bool, not_bit}
use Rattle.vs_four.specs.Logic.{BitList, all_known}
use Rattle.vs_four.specs.Lengths.{last_or}
use Rattle.vs_four.specs.Numbers.{digit, number, integer, bits_of, bits_of_integer}
use Rattle.vs_four.specs.Laws.{modulo, AreKnown, SumIsModular, DifferenceIsModular, ProductIsModular, NegationIsModular, QuotientIsModular, RemainderIsModular, ComparisonIsExact, IntegersAreTwosComplement}

-- ---- numbers

pub number-below : (a : BitList) → number a < 2 ^ length a
number-below [] = omega arith
number-below (Zero ∷ xs) = omega (arith, number-below xs, pow-suc 2 (length xs))
number-below (One ∷ xs) = omega (arith, number-below xs, pow-suc 2 (length xs))
number-below (X ∷ xs) = omega (arith, number-below xs, pow-suc 2 (length xs))
number-below (Z ∷ xs) = omega (arith, number-below xs, pow-suc 2 (length xs))

mod_pow-suc : (w n : ℕ) → n % 2 ^ suc w ≡ n / 2 % 2 ^ w * 2 + n % 2
mod_pow-suc w n = ap (λ (k : ℕ). n % 2 ^ k) (sym (add-one w)) ∙ mod-pow-add n w 1

pub number-bits_of : (w n : ℕ) → number (bits_of w n) ≡ n % 2 ^ w
number-bits_of zero n = omega arith
number-bits_of (suc w) n =
    let low : digit (of_bool (n % 2 == 1)) ≡ n % 2 = by_bit (λ d. digit (of_bool (d == 1)) ≡ d) refl refl n in
    omega (arith, low, number-bits_of w (n / 2), mod_pow-suc w n)

pub length-bits_of : (w n : ℕ) → length (bits_of w n) ≡ w
length-bits_of zero n = refl
length-bits_of (suc w) n = ap suc (length-bits_of w (n / 2))

pub known-bits_of : (w n : ℕ) → all_known (bits_of w n) ≡ true
known-bits_of zero n = refl
known-bits_of (suc w) n =
    let low : is_known (of_bool (n % 2 == 1)) ≡ true = by_bit (λ d. is_known (of_bool (d == 1)) ≡ true) refl refl n in
    ap₂ ◌&&◌ low (known-bits_of w (n / 2))

pub number-not : (a : BitList) → all_known a ≡ true → number (map not_bit a) + number a + 1 ≡ 2 ^ length a
number-not [] h = refl
number-not (Zero ∷ xs) h = omega (arith, number-not xs h, pow-suc 2 (length xs))
number-not (One ∷ xs) h = omega (arith, number-not xs h, pow-suc 2 (length xs))
number-not (X ∷ xs) h = cc
number-not (Z ∷ xs) h = cc

pub number-bits_of_integer : (w : ℕ) (z : ℤ) → pos (number (bits_of_integer w z)) ≡ modulo w z
number-bits_of_integer w (pos n) = ap pos (number-bits_of w n)
number-bits_of_integer w (negsuc n) =
    let whole = number-not (bits_of w n) (known-bits_of w n) in
    let count : 2 ^ length (bits_of w n) ≡ 2 ^ w = ap (λ (k : ℕ). 2 ^ k) (length-bits_of w n) in
    ap pos (omega (arith, whole, count, number-bits_of w n))

-- ---- integers

-- an integer is the number, or 2^w less
integer-is : (signed : Bool) (a : BitList) → (integer signed a ≡ pos (number a)) ⊎ (integer signed a ≡ pos (number a) -ℤ pos (2 ^ length a))
integer-is false a = inl refl
integer-is true a = at (is_one (last_or Zero a)) where
  at : (b : Bool) → ((if b then pos (number a) -ℤ pos (2 ^ length a) else pos (number a)) ≡ pos (number a)) ⊎ ((if b then pos (number a) -ℤ pos (2 ^ length a) else pos (number a)) ≡ pos (number a) -ℤ pos (2 ^ length a))
  at true = inr refl
  at false = inl refl

-- the integer and some multiple of 2^w give the number m
modulo-is : (w : ℕ) (z : ℤ) (k m : ℕ) → z +ℤ pos (k * 2 ^ w) ≡ pos m → modulo w z ≡ pos (m % 2 ^ w)
modulo-is w z k m e = int_rem_euclid_is z (pos (2 ^ w)) (2 ^ w) k m (pow_pos w) refl e

sum_modulo : (W A B : ℕ) (x y : ℤ) → ((x ≡ pos A) ⊎ (x ≡ pos A -ℤ pos W)) → ((y ≡ pos B) ⊎ (y ≡ pos B -ℤ pos W)) → (k : ℕ) × (x +ℤ y +ℤ pos (k * W) ≡ pos (A + B))
sum_modulo W A B x y (inl p) (inl q) = (0, omega (arith, ints, p, q))
sum_modulo W A B x y (inl p) (inr q) = (1, omega (arith, ints, p, q))
sum_modulo W A B x y (inr p) (inl q) = (1, omega (arith, ints, p, q))
sum_modulo W A B x y (inr p) (inr q) = (2, omega (arith, ints, p, q))

pub sum_is : SumIsModular
sum_is signed a b known =
    let w = length a in
    let same : length b ≡ w = sym known.same_length in
    let second : (integer signed b ≡ pos (number b)) ⊎ (integer signed b ≡ pos (number b) -ℤ pos (2 ^ w)) = subst (λ (n : ℕ). (integer signed b ≡ pos (number b)) ⊎ (integer signed b ≡ pos (number b) -ℤ pos (2 ^ n))) same (integer-is signed b) in
    let s = sum_modulo (2 ^ w) (number a) (number b) _ _ (integer-is signed a) second in
    rw (known.first, known.second, number-bits_of) (sym (modulo-is w _ s.0 _ s.1))

difference_modulo : (W A B : ℕ) (x y : ℤ) → B < W → ((x ≡ pos A) ⊎ (x ≡ pos A -ℤ pos W)) → ((y ≡ pos B) ⊎ (y ≡ pos B -ℤ pos W)) → (k : ℕ) × (x -ℤ y +ℤ pos (k * W) ≡ pos (A + W - B))
difference_modulo W A B x y h (inl p) (inl q) = (1, omega (arith, ints, p, q))
difference_modulo W A B x y h (inl p) (inr q) = (0, omega (arith, ints, p, q))
difference_modulo W A B x y h (inr p) (inl q) = (2, omega (arith, ints, p, q))
difference_modulo W A B x y h (inr p) (inr q) = (1, omega (arith, ints, p, q))

-- the second operand's integer, with the first one's length
second-is : (signed : Bool) (a b : BitList) → AreKnown a b → (integer signed b ≡ pos (number b)) ⊎ (integer signed b ≡ pos (number b) -ℤ pos (2 ^ length a))
second-is signed a b known = subst (λ (n : ℕ). (integer signed b ≡ pos (number b)) ⊎ (integer signed b ≡ pos (number b) -ℤ pos (2 ^ n))) (sym known.same_length) (integer-is signed b)

pub difference_is : DifferenceIsModular
difference_is signed a b known =
    let w = length a in
    let small : number b < 2 ^ w = subst (λ (n : ℕ). number b < 2 ^ n) (sym known.same_length) (number-below b) in
    let s = difference_modulo (2 ^ w) (number a) (number b) _ _ small (integer-is signed a) (second-is signed a b known) in
    rw (known.first, known.second, number-bits_of) (sym (modulo-is w _ s.0 _ s.1))

pub negation_is : NegationIsModular
negation_is signed a known =
    let w = length a in
    let small : number a < 2 ^ w = number-below a in
    let s : (k : ℕ) × (neg_ℤ (integer signed a) +ℤ pos (k * 2 ^ w) ≡ pos (2 ^ w - number a)) =
    elim (integer-is signed a) [ inl p ↦ (1, omega (arith, ints, p)) | inr p ↦ (0, omega (arith, ints, p)) ] in
    rw (known, number-bits_of) (sym (modulo-is w _ s.0 _ s.1))

-- ---- quotients

some_of : {A : Type 0} (b : Bool) (x y : A) → (if b then Some x else None) ≡ Some y → x ≡ y
some_of true x y h = cc
some_of false x y h = cc

pub quotient_is : QuotientIsModular
quotient_is signed a b q h = ap (λ v. pos (number v)) (sym (some_of _ _ _ h)) ∙ number-bits_of_integer (length a) _

pub remainder_is : RemainderIsModular
remainder_is signed a b r h = ap (λ v. pos (number v)) (sym (some_of _ _ _ h)) ∙ number-bits_of_integer (length a) _

-- ---- comparison

below_is : (x y : ℤ) → x <ℤ y → int_lt x y ≡ true
below_is x y h = grind (arith, ints)

not_below_is : (x y : ℤ) → y ≤ℤ x → int_lt x y ≡ false
not_below_is x y h = grind (arith, ints)

comparison_of : (x y : ℤ) → ((of_bool (int_lt x y) ≡ One) ↔ (x <ℤ y)) × ((of_bool (int_lt x y) ≡ Zero) ↔ (y ≤ℤ x))
comparison_of x y =
    by_lt_z x y
    (λ h. let e = ap of_bool (below_is x y h) in ((λ _. h, λ _. e), (λ z. absurd (let f : One ≡ Zero = sym e ∙ z in cc), λ k. absurd (omega (arith, ints, h, k)))))
    (λ h. let e = ap of_bool (not_below_is x y h) in ((λ z. absurd (let f : Zero ≡ One = sym e ∙ z in cc), λ k. absurd (omega (arith, ints, h, k))), (λ _. h, λ _. e)))

pub comparison_is : ComparisonIsExact
comparison_is signed a b known = rw (known.first, known.second) (comparison_of (integer signed a) (integer signed b))

-- ---- two's complement

digit-below : (b : Bit4) → digit b < 2
digit-below Zero = omega arith
digit-below One = omega arith
digit-below X = omega arith
digit-below Z = omega arith

-- whether the number is in the upper half is the top bit
top_half : (n : ℕ) (d : Bit4) (a : BitList) → all_known a ≡ true → length a ≡ suc n → ((is_one (last_or d a) ≡ true) × (2 ^ n ≤ number a)) ⊎ ((is_one (last_or d a) ≡ false) × (number a < 2 ^ n))
top_half n d [] known h = absurd (omega (arith, h))
top_half zero d (Zero ∷ []) known h = inr (refl, omega arith)
top_half zero d (One ∷ []) known h = inl (refl, omega arith)
top_half zero d (X ∷ []) known h = cc
top_half zero d (Z ∷ []) known h = cc
top_half (suc n) d (x ∷ []) known h = absurd (omega (arith, h))
top_half zero d (x ∷ y ∷ ys) known h = absurd (omega (arith, h))
top_half (suc n) d (x ∷ y ∷ ys) known h =
    let digit_below : digit x < 2 = digit-below x in
    elim (top_half n x (y ∷ ys) (and_parts (is_known x) (all_known (y ∷ ys)) known).1 (omega (arith, h)))
    [ inl p ↦ inl (p.0, omega (arith, p.1, pow-suc 2 n)) | inr p ↦ inr (p.0, omega (arith, p.1, digit_below, pow-suc 2 n)) ]

congruent_is : (signed : Bool) (a : BitList) → pos (number a) ≡ modulo (length a) (integer signed a)
congruent_is signed a =
    let w = length a in
    let small : number a < 2 ^ w = number-below a in
    let s : (k : ℕ) × (integer signed a +ℤ pos (k * 2 ^ w) ≡ pos (number a)) =
    elim (integer-is signed a) [ inl p ↦ (0, omega (arith, ints, p)) | inr p ↦ (1, omega (arith, ints, p)) ] in
    sym (modulo-is w _ s.0 _ s.1 ∙ ap pos (mod-eq_of_lt small))

signed_range : (n A : ℕ) (top : Bool) → A < 2 ^ (n + 1) → ((top ≡ true) × (2 ^ n ≤ A)) ⊎ ((top ≡ false) × (A < 2 ^ n))
    → let z : ℤ = (if top then pos A -ℤ pos (2 ^ (n + 1)) else pos A) in (neg_ℤ (pos (2 ^ n)) ≤ℤ z) × (z <ℤ pos (2 ^ n))
signed_range n A true h (inl p) = let e : 2 ^ (n + 1) ≡ 2 ^ n * 2 = pow_more 2 n in (omega (arith, ints, p.1, e), omega (arith, ints, p.1, e))
signed_range n A true h (inr p) = cc
signed_range n A false h (inl p) = cc
signed_range n A false h (inr p) = (omega (arith, ints), omega (arith, ints, p.1))

pub integers_are : IntegersAreTwosComplement
integers_are n a known count =
    let small : number a < 2 ^ (n + 1) = subst (λ (k : ℕ). number a < 2 ^ k) count (number-below a) in
    let halves = top_half n Zero a known (omega (arith, count)) in
    let P : ℕ → Type 0 = λ k. let z : ℤ = (if is_one (last_or Zero a) then pos (number a) -ℤ pos (2 ^ k) else pos (number a)) in (neg_ℤ (pos (2 ^ n)) ≤ℤ z) × (z <ℤ pos (2 ^ n)) in
    let range : P (length a) = subst P (sym count) (signed_range n (number a) (is_one (last_or Zero a)) small halves) in
    record {
      congruent = λ signed. congruent_is signed a ∙ ap (λ k. modulo k (integer signed a)) count;
      unsigned_least = omega (arith, ints);
      unsigned_most = omega (arith, ints, small);
      signed_least = range.0;
      signed_most = range.1;
    }

-- ---- products

-- a number less 2^w, as a negative number
negative_is : (W A : ℕ) (x : ℤ) → A < W → x ≡ pos A -ℤ pos W → x ≡ negsuc (W - A - 1)
negative_is W A x h e = omega (arith, ints, e)

mixed_product : (W A B q : ℕ) → B + suc q ≡ W → pos A *ℤ negsuc q +ℤ pos (A * W) ≡ pos (A * B)
mixed_product W A B q h =
    let e : A * W ≡ A * B + A * suc q = ap (λ k. A * k) (sym h) ∙ mul-add A B (suc q) in
    omega (arith, ints, e)

negative_product : (W A B p q : ℕ) → A + suc p ≡ W → B + suc q ≡ W → suc p * suc q + (A + B) * W ≡ A * B + W * W
negative_product W A B p q h l =
    let e : A * W ≡ A * (B + suc q) = ap (λ k. A * k) (sym l) in
    let f : B * W ≡ B * (A + suc p) = ap (λ k. B * k) (sym h) in
    let g : W * W ≡ (A + suc p) * (B + suc q) = ap₂ (λ k m. k * m) (sym h) (sym l) in
    omega (arith, e, f, g)

product_modulo : (W A B : ℕ) (x y : ℤ) → A < W → B < W → ((x ≡ pos A) ⊎ (x ≡ pos A -ℤ pos W)) → ((y ≡ pos B) ⊎ (y ≡ pos B -ℤ pos W)) → (k m j : ℕ) × (x *ℤ y +ℤ pos (k * W) ≡ pos m) × (m ≡ A * B + j * W)
product_modulo W A B x y h l (inl p) (inl q) = (0, A * B, 0, rw (p, q) (omega (arith, ints)), omega arith)
product_modulo W A B x y h l (inl p) (inr q) =
    (A, A * B, 0, rw (p, negative_is W B y l q) (mixed_product W A B (W - B - 1) (omega (arith, l))), omega arith)
product_modulo W A B x y h l (inr p) (inl q) =
    (B, A * B, 0, rw (q, negative_is W A x h p, *ℤ_comm (negsuc (W - A - 1)) (pos B)) (mixed_product W B A (W - A - 1) (omega (arith, h)) ∙ ap pos (mul_comm B A)), omega arith)
product_modulo W A B x y h l (inr p) (inr q) =
    let e = W - A - 1 in let f = W - B - 1 in (
      A + B,
      suc e * suc f + (A + B) * W,
      W,
      rw (negative_is W A x h p, negative_is W B y l q) refl,
      negative_product W A B e f (omega (arith, h)) (omega (arith, l)),
    )

pub product_is : ProductIsModular
product_is signed a b known =
    let w = length a in
    let small : number b < 2 ^ w = subst (λ (n : ℕ). number b < 2 ^ n) (sym known.same_length) (number-below b) in
    let s = product_modulo (2 ^ w) (number a) (number b) _ _ (number-below a) small (integer-is signed a) (second-is signed a b known) in
    let m : s.1 % 2 ^ w ≡ number a * number b % 2 ^ w = ap (λ k. k % 2 ^ w) s.4 ∙ add-mul-mod_self_right (number a * number b) s.2 (2 ^ w) in
    rw (known.first, known.second, number-bits_of) (sym (modulo-is w _ s.0 _ s.3 ∙ ap pos m))
