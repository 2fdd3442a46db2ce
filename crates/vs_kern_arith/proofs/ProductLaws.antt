-- Products by rows, digit by digit.
use Rattle.std.proofs.Common.{◌≡◌, ℕ, zero, suc, ◌+◌, ◌*◌, ◌/◌, ◌%◌, ◌<◌, Bool, true, false, ◌&&◌, ◌==◌, if◌then◌else◌, [], ◌∷◌, length, get_or, take, drop, replicate, refl, sym, ap, ap₂, ◌∙◌, arith, zero-add, inl, inr, length-drop}
use Rattle.std.proofs.lemmas.Bool.{cases_lt, and_parts}
use Rattle.std.proofs.lemmas.List.{get_or-drop, get_or_default}
use Rattle.std.proofs.Math.Nat.{mul-add}
use Rattle.std.proofs.Math.Seq.{take-length}
use Rattle.vs_four.specs.declared.Bit4.TheVariants.{Zero, One, X, Z}
use Rattle.vs_four.specs.Tables.{of_bool}
use Rattle.vs_four.specs.Logic.{BitList, all_known}
use Rattle.vs_four.specs.Numbers.{number, bits_of, if_known, mul}
use Rattle.vs_plane.specs.Bits.{differ}
use Rattle.vs_plane.specs.Lanes.{value_bit}
use Rattle.vs_kern_arith.specs.Digits.{bit, digits, sum_of, carry_into, sum_carry, sum_digit}
use Rattle.vs_kern_arith.specs.Rows.{row_digits, row_added}
use Rattle.vs_kern_arith.proofs.SumLaws.{half_of, is_odd, is_even, odd_of, halved, halved_once_more, get_or-bits_of, get_or-all_x, some_unknown, length-bits_of, length-all_x}
use Rattle.vs_kern_arith.proofs.CarryLaws.{carry_of_is, carry_same, bit_at_place}

-- ---- the digits of numbers

-- the digit of a number at place k
abbrev pub place : ℕ → ℕ → Bool
place n k = halved k n % 2 == 1

halved-zero : (k : ℕ) → halved k 0 ≡ 0
halved-zero zero = refl
halved-zero (suc k) = halved-zero k

halved-add : (n k m : ℕ) → halved (n + k) m ≡ halved k (halved n m)
halved-add zero k m = ap (λ (j : ℕ). halved j m) (zero-add k)
halved-add (suc n) k m = ap (λ (j : ℕ). halved j m) (let e : suc n + k ≡ suc (n + k) = omega arith in e) ∙ halved-add n k (m / 2)

-- the last digit and the rest
split : (n : ℕ) → n ≡ bit (n % 2 == 1) + 2 * (n / 2)
split n = elim (cases_lt (n % 2) 1) [
  | inl even ↦
      let e : n % 2 ≡ 0 = omega arith in
      let last : bit (n % 2 == 1) ≡ 0 = ap (λ (m : ℕ). bit (m == 1)) e in
      omega (arith, last)
  | inr odd ↦
      let e : n % 2 ≡ 1 = omega arith in
      let last : bit (n % 2 == 1) ≡ 1 = ap (λ (m : ℕ). bit (m == 1)) e in
      omega (arith, last)
]

halved_split : (k n : ℕ) → halved k n ≡ bit (place n k) + 2 * halved (suc k) n
halved_split k n = split (halved k n) ∙ ap (λ (m : ℕ). bit (place n k) + 2 * m) (sym (halved_once_more k n))

-- the carry into place k of a sum of two numbers
abbrev carry_of_sum : ℕ → ℕ → ℕ → Bool
carry_of_sum p q k = sum_carry (place p) (place q) false k

digits_of_two : (p q k : ℕ) → halved k p + halved k q + bit (carry_of_sum p q k)
    ≡ bit (place p k) + 2 * halved (suc k) p + (bit (place q k) + 2 * halved (suc k) q) + bit (carry_of_sum p q k)
digits_of_two p q k = ap₂ (λ (m n : ℕ). m + n + bit (carry_of_sum p q k)) (halved_split k p) (halved_split k q)

halved_sum : (p q k : ℕ) → halved k (p + q) ≡ halved k p + halved k q + bit (carry_of_sum p q k)
unfolding carry_into
halved_sum p q zero = omega arith
halved_sum p q (suc k) =
    halved_once_more k (p + q)
    ∙ half_of (place p k) (place q k) (carry_of_sum p q k) (halved (suc k) p) (halved (suc k) q) (halved k (p + q)) (halved_sum p q k ∙ digits_of_two p q k)
    ∙ ap (λ (v : Bool). halved (suc k) p + halved (suc k) q + bit v) (carry_of_is (place p k) (place q k) (carry_of_sum p q k))

place_sum : (p q k : ℕ) → place (p + q) k ≡ sum_of (place p k) (place q k) (carry_of_sum p q k)
place_sum p q k = odd_of (place p k) (place q k) (carry_of_sum p q k) (halved (suc k) p) (halved (suc k) q) (halved k (p + q)) (halved_sum p q k ∙ digits_of_two p q k)

-- those of a vector's number
digit_place : (a : BitList) (k : ℕ) → all_known a ≡ true → digits a k ≡ place (number a) k
digit_place [] k h = sym (ap (λ (m : ℕ). m % 2 == 1) (halved-zero k))
digit_place (Zero ∷ xs) zero h = sym (is_even (number (Zero ∷ xs)) (omega arith))
digit_place (One ∷ xs) zero h = sym (is_odd (number (One ∷ xs)) (omega arith))
digit_place (Zero ∷ xs) (suc k) h = digit_place xs k h ∙ ap (λ (m : ℕ). place m k) (let e : number xs ≡ number (Zero ∷ xs) / 2 = omega arith in e)
digit_place (One ∷ xs) (suc k) h = digit_place xs k h ∙ ap (λ (m : ℕ). place m k) (let e : number xs ≡ number (One ∷ xs) / 2 = omega arith in e)
digit_place (X ∷ xs) k h = cc
digit_place (Z ∷ xs) k h = cc

-- ---- n places up

abbrev shifted : ℕ → ℕ → ℕ
shifted zero m = m
shifted (suc n) m = 2 * shifted n m

shifted-zero : (n : ℕ) → shifted n 0 ≡ 0
shifted-zero zero = refl
shifted-zero (suc n) = omega (arith, shifted-zero n)

half_plus : (p s : ℕ) → (p + 2 * s) / 2 ≡ p / 2 + s
half_plus p s = omega arith

halved-shifted : (n p q : ℕ) → halved n (p + shifted n q) ≡ halved n p + q
halved-shifted zero p q = refl
halved-shifted (suc n) p q = ap (λ (m : ℕ). halved n m) (half_plus p (shifted n q)) ∙ halved-shifted n (p / 2) q

place-shifted : (n k p q : ℕ) → k < n → place (p + shifted n q) k ≡ place p k
place-shifted zero k p q h = absurd (let e : ⊥ = omega arith in e)
place-shifted (suc n) zero p q h = ap (λ (m : ℕ). m == 1) (let e : (p + 2 * shifted n q) % 2 ≡ p % 2 = omega arith in e)
place-shifted (suc n) (suc k) p q h = ap (λ (m : ℕ). place m k) (half_plus p (shifted n q)) ∙ place-shifted n k (p / 2) q (omega arith)

times_double : (a s : ℕ) → a * (2 * s) ≡ 2 * (a * s)
times_double a s = grind arith

mul-shifted : (n a d : ℕ) → a * shifted n d ≡ shifted n (a * d)
mul-shifted zero a d = refl
mul-shifted (suc n) a d = times_double a (shifted n d) ∙ ap (λ (m : ℕ). 2 * m) (mul-shifted n a d)

-- one more place of a number
number-take : (b : BitList) (n : ℕ) → all_known b ≡ true → number (take (suc n) b) ≡ number (take n b) + shifted n (bit (digits b n))
number-take [] zero h = refl
number-take [] (suc n) h = let e : shifted n 0 ≡ 0 = shifted-zero n in omega (arith, e)
number-take (Zero ∷ xs) zero h = refl
number-take (One ∷ xs) zero h = refl
number-take (Zero ∷ xs) (suc n) h = omega (arith, number-take xs n h)
number-take (One ∷ xs) (suc n) h = omega (arith, number-take xs n h)
number-take (X ∷ xs) n h = cc
number-take (Z ∷ xs) n h = cc

-- ---- the product so far

-- the product of the first operand and the first n places of the second one
abbrev pub product : BitList → BitList → ℕ → BitList
product a b n = if_known (all_known a && all_known b) (length a) (bits_of (length a) (number a * number (take n b)))

pub length-product : (a b : BitList) (n : ℕ) → length (product a b n) ≡ length a
length-product a b n = at (all_known a && all_known b) where
  at : (known : Bool) → length (if_known known (length a) (bits_of (length a) (number a * number (take n b)))) ≡ length a
  at true = length-bits_of (length a) (number a * number (take n b))
  at false = length-all_x (length a)

bits_of-zero : (w : ℕ) → replicate w Zero ≡ bits_of w 0
bits_of-zero zero = refl
bits_of-zero (suc w) = ap (λ (r : BitList). Zero ∷ r) (bits_of-zero w)

pub product_begins : (a b : BitList) → replicate (length a) (if some_unknown (all_known a) (all_known b) then X else Zero) ≡ product a b 0
product_begins a b = at (all_known a) (all_known b) where
  at : (p q : Bool) → replicate (length a) (if some_unknown p q then X else Zero) ≡ if_known (p && q) (length a) (bits_of (length a) (number a * number (take 0 b)))
  at true true = bits_of-zero (length a) ∙ ap (λ (n : ℕ). bits_of (length a) n) (let e : 0 ≡ number a * 0 = omega arith in e)
  at true false = refl
  at false q = refl

pub product_ends : (a b : BitList) (n : ℕ) → n ≡ length b → product a b n ≡ mul a b
product_ends a b n h =
    ap (λ (m : ℕ). product a b m) h
    ∙ ap (λ (r : BitList). if_known (all_known a && all_known b) (length a) (bits_of (length a) (number a * number r))) (take-length b)

product_more : (a b : BitList) (n : ℕ) → all_known b ≡ true → number a * number (take (suc n) b) ≡ number a * number (take n b) + shifted n (number a * bit (digits b n))
product_more a b n h =
    ap (λ (m : ℕ). number a * m) (number-take b n h)
    ∙ mul-add (number a) (number (take n b)) (shifted n (bit (digits b n)))
    ∙ ap (λ (m : ℕ). number a * number (take n b) + m) (mul-shifted n (number a) (bit (digits b n)))

-- the places below a row stay
pub product_low : (a b : BitList) (n k : ℕ) → k < n → k < length a → get_or (product a b n) k X ≡ get_or (product a b (suc n)) k X
product_low a b n k h l = at (all_known a && all_known b) (λ e. (and_parts (all_known a) (all_known b) e).1) where
  at : (known : Bool) → (known ≡ true → all_known b ≡ true)
      → get_or (if_known known (length a) (bits_of (length a) (number a * number (take n b)))) k X ≡ get_or (if_known known (length a) (bits_of (length a) (number a * number (take (suc n) b)))) k X
  at true known =
      get_or-bits_of (length a) k (number a * number (take n b)) l
      ∙ ap of_bool (sym (ap (λ (m : ℕ). place m k) (product_more a b n (known refl)) ∙ place-shifted n k (number a * number (take n b)) (number a * bit (digits b n)) h))
      ∙ sym (get_or-bits_of (length a) k (number a * number (take (suc n) b)) l)
  at false known = refl

-- ---- a row

and_true : (v : Bool) → (v && true) ≡ v
and_true true = refl
and_true false = refl

and_false : (v : Bool) → (v && false) ≡ false
and_false true = refl
and_false false = refl

row_place : (d : Bool) (a : BitList) (j : ℕ) → all_known a ≡ true → row_digits d a j ≡ place (number a * bit d) j
row_place true a j h = and_true (digits a j) ∙ digit_place a j h ∙ ap (λ (m : ℕ). place m j) (let e : number a ≡ number a * 1 = omega arith in e)
row_place false a j h = and_false (digits a j) ∙ sym (ap (λ (m : ℕ). place m j) (let e : number a * 0 ≡ 0 = omega arith in e) ∙ ap (λ (m : ℕ). m % 2 == 1) (halved-zero j))

value-of_bool : (v : Bool) → value_bit (of_bool v) ≡ v
value-of_bool true = refl
value-of_bool false = refl

rest_place : (w n j m : ℕ) → n + j < w → digits (drop n (bits_of w m)) j ≡ place (halved n m) j
rest_place w n j m h =
    ap value_bit (get_or-drop n (bits_of w m) j Zero ∙ get_or_default (bits_of w m) (n + j) Zero X (omega (arith, h, length-bits_of w m)) ∙ get_or-bits_of w (n + j) m h)
    ∙ value-of_bool (place m (n + j))
    ∙ ap (λ (x : ℕ). x % 2 == 1) (halved-add n j m)

-- the bit that is stored at the row's place j
row_bit : (d : Bool) (a : BitList) (w n j m next : ℕ) → n + j < w → all_known a ≡ true → next ≡ m + shifted n (number a * bit d)
    → sum_of (row_digits d a j) (digits (drop n (bits_of w m)) j) (sum_carry (row_digits d a) (digits (drop n (bits_of w m))) false j) ≡ place next (n + j)
row_bit d a w n j m next h known is =
    let q : ℕ = number a * bit d in
    let p : ℕ = halved n m in
    let rest : BitList = drop n (bits_of w m) in
    let carry : sum_carry (row_digits d a) (digits rest) false j ≡ carry_of_sum q p j =
    carry_same (λ k. row_digits d a k && digits rest k) (λ k. differ (row_digits d a k) (digits rest k)) (λ k. place q k && place p k) (λ k. differ (place q k) (place p k)) false false j refl
    (λ k l. ap₂ ◌&&◌ (row_place d a k known) (rest_place w n k m (omega arith)))
    (λ k l. ap₂ differ (row_place d a k known) (rest_place w n k m (omega arith))) in
    let sum : q + p ≡ halved n next = (let e : q + p ≡ p + q = omega arith in e) ∙ sym (ap (λ (x : ℕ). halved n x) is ∙ halved-shifted n m q) in
    ap₂ (λ (x y : Bool). sum_of x y (sum_carry (row_digits d a) (digits rest) false j)) (row_place d a j known) (rest_place w n j m h)
    ∙ ap (λ (c : Bool). sum_of (place q j) (place p j) c) carry
    ∙ sym (place_sum q p j)
    ∙ ap (λ (x : ℕ). place x j) sum
    ∙ sym (ap (λ (x : ℕ). x % 2 == 1) (halved-add n j next))

-- the bits from a row's place on are those of the product with that place
pub row_stands : (a b : BitList) (n j : ℕ) → n + j < length a
    → get_or (row_added (some_unknown (all_known a) (all_known b)) (digits b n) a (drop n (product a b n))) j X ≡ get_or (product a b (suc n)) (n + j) X
row_stands a b n j h =
    let f : ℕ → _ = sum_digit (some_unknown (all_known a) (all_known b)) (row_digits (digits b n) a) (digits (drop n (product a b n))) false in
    let long : j < length (drop n (product a b n)) = omega (arith, h, length-drop n (product a b n), length-product a b n) in
    bit_at_place f (length (drop n (product a b n))) j long ∙ at (all_known a) (all_known b) refl refl where
      at : (p q : Bool) → all_known a ≡ p → all_known b ≡ q
          → sum_digit (some_unknown p q) (row_digits (digits b n) a) (digits (drop n (if_known (p && q) (length a) (bits_of (length a) (number a * number (take n b)))))) false j
          ≡ get_or (if_known (p && q) (length a) (bits_of (length a) (number a * number (take (suc n) b)))) (n + j) X
      at true true known_a known_b =
          ap of_bool (row_bit (digits b n) a (length a) n j (number a * number (take n b)) (number a * number (take (suc n) b)) h known_a (product_more a b n known_b))
          ∙ sym (get_or-bits_of (length a) (n + j) (number a * number (take (suc n) b)) h)
      at true false known_a known_b = sym (get_or-all_x (length a) (n + j))
      at false q known_a known_b = sym (get_or-all_x (length a) (n + j))
