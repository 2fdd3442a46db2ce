-- Whether the bits of a base are those of a number, bit by bit.
use Rattle.std.proofs.Common.{◌≡◌, ℕ, ◌+◌, ◌*◌, ◌/◌, ◌%◌, ◌^◌, ◌<◌, ◌≢◌, Bool, true, false, not, ◌&&◌, ◌==◌, if◌then◌else◌, ℤ, pos, negsuc, ◌-ℤ◌, int_eq, [], ◌∷◌, map, length, get_or, Decides, eq-eqb, refl, sym, ap, ◌∙◌, arith}
use mathlib.Core.Bool.{beq}
use Rattle.std.proofs.Math.Nat.{pow-suc}
use Rattle.std.proofs.lemmas.Bool.{and_parts, eqb-true, eqb-false}
use Rattle.std.proofs.lemmas.Bool.Decides.{same_from_decides, Decides-int_eq}
use Rattle.std.proofs.lemmas.Int.{ints}
use Rattle.vs_four.specs.declared.Bit4.{Bit4}
use Rattle.vs_four.specs.declared.Bit4.TheVariants.{Zero, One, X, Z}
use Rattle.vs_four.specs.Tables.{is_one, is_known, not_bit}
use Rattle.vs_four.specs.Lengths.{last_or}
use Rattle.vs_four.specs.Logic.{BitList, all_known}
use Rattle.vs_four.specs.Numbers.{number, integer}
use Rattle.vs_plane.specs.Bits.{differ}
use Rattle.vs_kern_select.specs.Matches.{has_digit, is_natural, is_number}

-- ---- the last bit

last_at : (d b : Bit4) (xs : BitList) → get_or (b ∷ xs) (length xs) d ≡ last_or b xs
last_at d b [] = refl
last_at d b (x ∷ xs) = last_at d x xs

pub last_is : (a : BitList) (k : ℕ) → length a ≡ k + 1 → get_or a k X ≡ last_or Zero a
last_is [] k h = absurd (let e : ⊥ = omega (arith, h) in e)
last_is (x ∷ xs) k h =
    let e : k ≡ length xs = omega (arith, h) in
    ap (λ (n : ℕ). get_or (x ∷ xs) n X) e ∙ last_at X x xs

-- ---- tests

pub same_tests : (r s : Bool) → (r ≡ true → s ≡ true) → (s ≡ true → r ≡ true) → r ≡ s
same_tests r s to from = let there : Decides r (s ≡ true) = (to, from) in let same : Decides s (s ≡ true) = ((λ e. e), (λ e. e)) in same_from_decides r s there same

is_odd : (n : ℕ) → (n % 2 == 1) ≡ true → n % 2 ≡ 1
is_odd n h = eqb-true (n % 2) 1 h

is_even : (n : ℕ) → (n % 2 == 1) ≡ false → n % 2 ≡ 0
is_even n h = let no : n % 2 ≢ 1 = eqb-false (n % 2) 1 h in omega arith

pub never : (r : Bool) → (r ≡ true → ⊥) → r ≡ false
never true h = absurd (h refl)
never false h = refl

-- ---- one bit

even_zero : (n m : ℕ) → (n % 2 == 1) ≡ false → (0 + 2 * m == n) ≡ (m == n / 2)
even_zero n m h = let even = is_even n h in same_tests _ _
    (λ e. let is : 0 + 2 * m ≡ n = eqb-true _ n e in eq-eqb m (n / 2) (omega arith))
    (λ e. let is : m ≡ n / 2 = eqb-true m _ e in eq-eqb (0 + 2 * m) n (omega arith))

odd_one : (n m : ℕ) → (n % 2 == 1) ≡ true → (1 + 2 * m == n) ≡ (m == n / 2)
odd_one n m h = let odd = is_odd n h in same_tests _ _
    (λ e. let is : 1 + 2 * m ≡ n = eqb-true _ n e in eq-eqb m (n / 2) (omega arith))
    (λ e. let is : m ≡ n / 2 = eqb-true m _ e in eq-eqb (1 + 2 * m) n (omega arith))

odd_zero : (n m : ℕ) → (n % 2 == 1) ≡ true → (0 + 2 * m == n) ≡ false
odd_zero n m h = let odd = is_odd n h in never _ (λ e. let is : 0 + 2 * m ≡ n = eqb-true _ n e in omega arith)

even_one : (n m : ℕ) → (n % 2 == 1) ≡ false → (1 + 2 * m == n) ≡ false
even_one n m h = let even = is_even n h in never _ (λ e. let is : 1 + 2 * m ≡ n = eqb-true _ n e in omega arith)

pub and_false : (p : Bool) → (p && false) ≡ false
and_false true = refl
and_false false = refl

natural_step : (inverted odd : Bool) (b : Bit4) (bs : BitList) (n : ℕ) → (n % 2 == 1) ≡ odd
    → is_natural inverted (b ∷ bs) n ≡ (has_digit (differ odd inverted) b && is_natural inverted bs (n / 2))
natural_step true true Zero bs n h = ap (λ (t : Bool). all_known bs && t) (odd_one n (number (map not_bit bs)) h)
natural_step true false Zero bs n h = ap (λ (t : Bool). all_known bs && t) (even_one n (number (map not_bit bs)) h) ∙ and_false (all_known bs)
natural_step true true One bs n h = ap (λ (t : Bool). all_known bs && t) (odd_zero n (number (map not_bit bs)) h) ∙ and_false (all_known bs)
natural_step true false One bs n h = ap (λ (t : Bool). all_known bs && t) (even_zero n (number (map not_bit bs)) h)
natural_step true true X bs n h = refl
natural_step true false X bs n h = refl
natural_step true true Z bs n h = refl
natural_step true false Z bs n h = refl
natural_step false true Zero bs n h = ap (λ (t : Bool). all_known bs && t) (odd_zero n (number bs) h) ∙ and_false (all_known bs)
natural_step false false Zero bs n h = ap (λ (t : Bool). all_known bs && t) (even_zero n (number bs) h)
natural_step false true One bs n h = ap (λ (t : Bool). all_known bs && t) (odd_one n (number bs) h)
natural_step false false One bs n h = ap (λ (t : Bool). all_known bs && t) (even_one n (number bs) h) ∙ and_false (all_known bs)
natural_step false true X bs n h = refl
natural_step false false X bs n h = refl
natural_step false true Z bs n h = refl
natural_step false false Z bs n h = refl

-- the first bit, and those that are left
pub natural_next : (inverted one : Bool) (b : Bit4) (bs : BitList) (n : ℕ) → one ≡ differ (n % 2 == 1) inverted
    → (has_digit one b && is_natural inverted bs (n / 2)) ≡ is_natural inverted (b ∷ bs) n
natural_next inverted one b bs n is =
    ap (λ (o : Bool). has_digit o b && is_natural inverted bs (n / 2)) is
    ∙ sym (natural_step inverted (n % 2 == 1) b bs n refl)

pub differ_is : (x y : Bool) → not (beq x y) ≡ differ x y
differ_is true true = refl
differ_is true false = refl
differ_is false true = refl
differ_is false false = refl

pub and_again : (p q r : Bool) → ((p && q) && r) ≡ (p && (q && r))
and_again true q r = refl
and_again false q r = refl

-- at the end
natural_none : (inverted : Bool) (n : ℕ) → is_natural inverted [] n ≡ (0 == n)
natural_none true n = refl
natural_none false n = refl

and_true : (p : Bool) → (p && true) ≡ p
and_true true = refl
and_true false = refl

pub and_is : (p inverted : Bool) (n : ℕ) → n ≡ 0 → p ≡ (p && is_natural inverted [] n)
and_is p inverted n h = sym (ap (λ (v : Bool). p && v) (natural_none inverted n ∙ eq-eqb 0 n (sym h)) ∙ and_true p)

pub and_isnt : (p inverted : Bool) (n : ℕ) → n ≢ 0 → false ≡ (p && is_natural inverted [] n)
and_isnt p inverted n h = sym (ap (λ (v : Bool). p && v) (natural_none inverted n ∙ never (0 == n) (λ e. h (sym (eqb-true 0 n e)))) ∙ and_false p)

-- ---- the sign

last_known : (d : Bit4) (a : BitList) → is_known d ≡ true → all_known a ≡ true → is_known (last_or d a) ≡ true
last_known d [] h known = h
last_known d (x ∷ xs) h known = last_known x xs (and_parts (is_known x) (all_known xs) known).0 (and_parts (is_known x) (all_known xs) known).1

-- the inverse of a number
inverse_is : (a : BitList) → all_known a ≡ true → number (map not_bit a) + number a + 1 ≡ 2 ^ length a
inverse_is [] h = refl
inverse_is (Zero ∷ xs) h = let rest = inverse_is xs h in omega (arith, rest, pow-suc 2 (length xs))
inverse_is (One ∷ xs) h = let rest = inverse_is xs h in omega (arith, rest, pow-suc 2 (length xs))
inverse_is (X ∷ xs) h = cc
inverse_is (Z ∷ xs) h = cc

pub same_int : (r : Bool) (v w : ℤ) → (r ≡ true → v ≡ w) → (v ≡ w → r ≡ true) → r ≡ int_eq v w
same_int r v w to from = same_tests r (int_eq v w) (λ e. (Decides-int_eq v w).1 (to e)) (λ e. from ((Decides-int_eq v w).0 e))

pub other_int : (v w : ℤ) → (v ≡ w → ⊥) → false ≡ int_eq v w
other_int v w apart = sym (never (int_eq v w) (λ e. apart ((Decides-int_eq v w).0 e)))

signed_at : (t : Bit4) (n m p : ℕ) → is_known t ≡ true → n < p
    → ((n == m) && has_digit false t) ≡ int_eq (if is_one t then (pos n -ℤ pos p) else pos n) (pos m)
signed_at Zero n m p h below = and_true (n == m) ∙ same_int (n == m) (pos n) (pos m) (λ e. ap pos (eqb-true n m e)) (λ e. eq-eqb n m (omega (arith, ints)))
signed_at One n m p h below = and_false (n == m) ∙ other_int (pos n -ℤ pos p) (pos m) (λ e. omega (arith, ints))
signed_at X n m p h below = cc
signed_at Z n m p h below = cc

negative_at : (t : Bit4) (n inverse m p : ℕ) → is_known t ≡ true → inverse + n + 1 ≡ p
    → ((inverse == m) && has_digit true t) ≡ int_eq (if is_one t then (pos n -ℤ pos p) else pos n) (negsuc m)
negative_at Zero n inverse m p h is = and_false (inverse == m) ∙ other_int (pos n) (negsuc m) (λ e. omega (arith, ints))
negative_at One n inverse m p h is = and_true (inverse == m) ∙ same_int (inverse == m) (pos n -ℤ pos p) (negsuc m)
    (λ e. let same : inverse ≡ m = eqb-true inverse m e in omega (arith, ints))
    (λ e. eq-eqb inverse m (omega (arith, ints)))
negative_at X n inverse m p h is = cc
negative_at Z n inverse m p h is = cc

pub number_of_signed : (a : BitList) (m : ℕ) → (is_natural false a m && has_digit false (last_or Zero a)) ≡ is_number true a (pos m)
number_of_signed a m = at (all_known a) refl where
  at : (k : Bool) → all_known a ≡ k → ((k && (number a == m)) && has_digit false (last_or Zero a)) ≡ (k && int_eq (integer true a) (pos m))
  at true e = signed_at (last_or Zero a) (number a) m (2 ^ length a) (last_known Zero a refl e) (omega (arith, inverse_is a e))
  at false e = refl

pub number_of_negative : (a : BitList) (m : ℕ) → (is_natural true a m && has_digit true (last_or Zero a)) ≡ is_number true a (negsuc m)
number_of_negative a m = at (all_known a) refl where
  at : (k : Bool) → all_known a ≡ k → ((k && (number (map not_bit a) == m)) && has_digit true (last_or Zero a)) ≡ (k && int_eq (integer true a) (negsuc m))
  at true e = negative_at (last_or Zero a) (number a) (number (map not_bit a)) m (2 ^ length a) (last_known Zero a refl e) (inverse_is a e)
  at false e = refl
