-- Numbers of known vectors, and arithmetic modulo a power of two.
use Rattle.std.proofs.Common.{◌≡◌, ℕ, zero, suc, ◌+◌, ◌-◌, ◌*◌, ◌/◌, ◌%◌, ◌^◌, ◌<◌, ◌≤◌, Bool, true, false, not, ◌&&◌, ◌==◌, if◌then◌else◌, nat_lt, ℤ, pos, negsuc, neg_ℤ, ◌-ℤ◌, unsigned_abs, int_div, int_rem, List, [], ◌∷◌, length, refl, sym, ap, ◌∙◌, arith}
use Rattle.std.proofs.lemmas.Nat.{pow_pos, pow-add, div-add-mod'}
use Rattle.std.proofs.lemmas.Bool.{eqb-true, eqb-false, lt-ltb, le-ltb, cond_both, not-true, and_parts}
use Rattle.std.proofs.lemmas.Int.{ints, fits_signed_from_abs, to_z-of_z}
use Rattle.std.specs.Int.RustNames.{FitsSigned}
use mir.Syntax.{w128}
use mir.Val.{of_z, to_z}
use Rattle.std.proofs.Math.Nat.{add-mul-mod_self_right, add-mod_right, zero-mod, pow-suc, div-le_self, mod-le}
use Rattle.std.proofs.Math.Pow.{mod-mod-pow}
use Rattle.vs_four.specs.declared.Bit4.{Bit4}
use Rattle.vs_four.specs.declared.Bit4.TheVariants.{Zero, One, X, Z}
use Rattle.vs_four.specs.Planes.{bits_of_planes}
use Rattle.vs_four.specs.Logic.{all_known}
use Rattle.vs_four.specs.Lengths.{last_or}
use Rattle.vs_four.specs.Tables.{is_one}
use Rattle.vs_four.specs.Numbers.{digit, number, integer, bits_of, has_quotient, log_up}
use Rattle.vs_four.proofs.PlanesLemmas.{Operand}
use Rattle.vs_four.proofs.PlaneParts.{mod-planes, known-planes, number-planes, bits_of-planes}

-- ---- known operands

pub known_test : {n v u : ℕ} {a : List Bit4} → Operand n v u a → (u == 0) ≡ all_known a
known_test {n} {v} {u} o = sym (known-planes n v u o.unknown_below) ∙ ap all_known o.planes

pub known_unknown : {n v u : ℕ} {a : List Bit4} → Operand n v u a → all_known a ≡ true → u ≡ 0
known_unknown {n} {v} {u} o k = eqb-true u 0 (known_test o ∙ k)

pub known_number : {n v u : ℕ} {a : List Bit4} → Operand n v u a → all_known a ≡ true → v ≡ number a
known_number {n} {v} {u} o k =
    sym (number-planes n v o.value_below)
    ∙ ap number (ap (bits_of_planes n v) (sym (known_unknown o k)) ∙ o.planes)

pub number-below : (a : List Bit4) → number a < 2 ^ length a
number-below [] = omega arith
number-below (Zero ∷ a) = omega (arith, number-below a, pow-suc 2 (length a))
number-below (One ∷ a) = omega (arith, number-below a, pow-suc 2 (length a))
number-below (X ∷ a) = omega (arith, number-below a, pow-suc 2 (length a))
number-below (Z ∷ a) = omega (arith, number-below a, pow-suc 2 (length a))

-- ---- the low bits of a number

pub length-bits_of : (n m : ℕ) → length (bits_of n m) ≡ n
length-bits_of zero m = refl
length-bits_of (suc n) m = ap suc (length-bits_of n (m / 2))

pub planes-mod : (n m : ℕ) → bits_of_planes n (m % 2 ^ n) 0 ≡ bits_of n m
planes-mod n m =
    let e : 0 ≡ 0 % 2 ^ n = sym (zero-mod (2 ^ n)) in
    ap (bits_of_planes n (m % 2 ^ n)) e ∙ mod-planes n m 0 ∙ bits_of-planes n m

pub bits_of-mod : (n m : ℕ) → bits_of n (m % 2 ^ n) ≡ bits_of n m
bits_of-mod n m = sym (bits_of-planes n (m % 2 ^ n)) ∙ planes-mod n m

-- two numbers with one remainder have the same low bits
pub bits_of-same : (n a b : ℕ) → a % 2 ^ n ≡ b % 2 ^ n → bits_of n a ≡ bits_of n b
bits_of-same n a b e = sym (bits_of-mod n a) ∙ ap (bits_of n) e ∙ bits_of-mod n b

pub mod_mod : (n k m : ℕ) → n ≤ k → m % 2 ^ k % 2 ^ n ≡ m % 2 ^ n
mod_mod n k m h =
    let e : k ≡ (k - n) + n = omega arith in
    ap (λ (j : ℕ). m % 2 ^ j % 2 ^ n) e ∙ mod-mod-pow m (k - n) n

-- a longer mask before a shorter one
pub bits_of-longer : (n k m : ℕ) → n ≤ k → bits_of n (m % 2 ^ k) ≡ bits_of n m
bits_of-longer n k m h = bits_of-same n (m % 2 ^ k) m (mod_mod n k m h)

-- a number counted down from a power of two has the same low bits from any power that is as long
pub bits_of-down : (n k a b : ℕ) → n ≤ k → b ≤ 2 ^ n → bits_of n ((a + (2 ^ k - b)) % 2 ^ k) ≡ bits_of n ((a + 2 ^ n) - b)
bits_of-down n k a b h below =
    let q : ℕ = 2 ^ (k - n) - 1 in
    let e : 2 ^ k ≡ 2 ^ (k - n) * 2 ^ n = ap (λ (j : ℕ). 2 ^ j) (omega arith) ∙ pow-add 2 (k - n) n in
    let f : 2 ^ k ≡ (q + 1) * 2 ^ n = e ∙ ap (λ (p : ℕ). p * 2 ^ n) (omega (arith, pow_pos (k - n))) in
    let g : a + (2 ^ k - b) ≡ ((a + 2 ^ n) - b) + q * 2 ^ n = omega (arith, f, below) in
    bits_of-longer n k (a + (2 ^ k - b)) h
    ∙ bits_of-same n _ _ (ap (λ (x : ℕ). x % 2 ^ n) g ∙ add-mul-mod_self_right ((a + 2 ^ n) - b) q (2 ^ n))

-- a negated number
pub bits_of-negated : (n k r a : ℕ) → n ≤ k → a ≤ 2 ^ n → (r + a) % 2 ^ k ≡ 0 → bits_of n r ≡ bits_of n (2 ^ n - a)
bits_of-negated n k r a h below zero_sum =
    let p : ℕ = 2 ^ (k - n) in
    let e : 2 ^ k ≡ p * 2 ^ n = ap (λ (j : ℕ). 2 ^ j) (omega arith) ∙ pow-add 2 (k - n) n in
    let q : ℕ = (r + a) / 2 ^ k in
    let whole : q * 2 ^ k + (r + a) % 2 ^ k ≡ r + a = div-add-mod' (r + a) (2 ^ k) in
    let scaled : q * 2 ^ k ≡ (q * p) * 2 ^ n = ap (λ (x : ℕ). q * x) e ∙ omega arith in
    let f : r + 2 ^ n ≡ (2 ^ n - a) + (q * p) * 2 ^ n = omega (arith, whole, scaled, zero_sum, below) in
    bits_of-same n r (2 ^ n - a)
    (sym (add-mod_right r (2 ^ n)) ∙ ap (λ (x : ℕ). x % 2 ^ n) f ∙ add-mul-mod_self_right (2 ^ n - a) (q * p) (2 ^ n))

-- ---- a choice by two tests

pub if_both : {A : Type 0} (p q : Bool) (x y : A) → p ≡ true → q ≡ true → (if p && q then x else y) ≡ x
if_both p q x y h k = rw (h, k) refl

-- ---- numbers with a sign

top_one : (b : Bit4) (a : List Bit4) → last_or b a ≡ One → 2 ^ length a ≤ digit b + 2 * number a
top_one b [] e = rw e (omega arith)
top_one b (c ∷ a) e = omega (arith, top_one c a e, pow-suc 2 (length a))

-- of a negative vector the number is at least half of the power
pub negative_number : (a : List Bit4) → last_or Zero a ≡ One → 2 ^ length a ≤ 2 * number a
negative_number a e = omega (arith, top_one Zero a e)

pub abs_difference : (n m : ℕ) → n ≤ m → unsigned_abs (pos n -ℤ pos m) ≡ m - n
abs_difference n m h = omega (arith, ints)

pub abs_integer-positive : (signed : Bool) (a : List Bit4) → (number a ≡ 0 → ⊥) → 0 < unsigned_abs (integer signed a)
abs_integer-positive signed a some =
    let below : number a < 2 ^ length a = number-below a in
    cond_both (signed && is_one (last_or Zero a)) (pos (number a) -ℤ pos (2 ^ length a)) (pos (number a)) (λ z. 0 < unsigned_abs z)
    (λ e. omega (arith, abs_difference (number a) (2 ^ length a) (omega (arith, below)), below))
    (λ e. omega (arith, some))

-- a number that is not 0 has bits that are not 0
pub of_z-positive : (z : ℤ) → 0 < unsigned_abs z → unsigned_abs z < 2 ^ 64 → 0 < of_z w128 z
of_z-positive (pos n) h k = h
of_z-positive (negsuc n) h k = omega (arith, k)

abs_neg : (n : ℕ) → unsigned_abs (neg_ℤ (pos n)) ≡ n
abs_neg zero = refl
abs_neg (suc n) = refl

pub abs_quotient : (a b : ℤ) → unsigned_abs (int_div a b) ≤ unsigned_abs a
abs_quotient (pos a) (pos b) = div-le_self a b
abs_quotient (pos a) (negsuc b) = rw (abs_neg (a / suc b)) (div-le_self a (suc b))
abs_quotient (negsuc a) (pos b) = rw (abs_neg (suc a / b)) (div-le_self (suc a) b)
abs_quotient (negsuc a) (negsuc b) = div-le_self (suc a) (suc b)

pub quotient_fits : (a b : ℤ) → unsigned_abs a < 2 ^ 64 → FitsSigned w128 (int_div a b)
quotient_fits a b h = fits_signed_from_abs w128 (int_div a b) (omega (arith, h, abs_quotient a b))

-- the quotient of two numbers of at most 65 bits has a value in 128 bits
pub quotient_defined : (signed : Bool) (a b : List Bit4) (m n : ℤ) → has_quotient a b ≡ true → unsigned_abs m < 2 ^ 64 → unsigned_abs n < 2 ^ 64 → n ≡ integer signed b
    → (0 < of_z w128 n) × FitsSigned w128 (int_div (to_z w128 (of_z w128 m)) (to_z w128 (of_z w128 n)))
quotient_defined signed a b m n has h k e =
    let m_fits : FitsSigned w128 m = fits_signed_from_abs w128 m (omega (arith, h)) in
    let n_fits : FitsSigned w128 n = fits_signed_from_abs w128 n (omega (arith, k)) in
    let some : number b ≡ 0 → ⊥ = eqb-false (number b) 0 (not-true (number b == 0) (and_parts (all_known a && all_known b) (not (number b == 0)) has).1) in
    let positive : 0 < unsigned_abs n = rw e (abs_integer-positive signed b some) in
    (of_z-positive n positive k, rw (to_z-of_z w128 m m_fits, to_z-of_z w128 n n_fits) (quotient_fits m n h))

pub abs_remainder : (a b : ℤ) → unsigned_abs (int_rem a b) ≤ unsigned_abs a
abs_remainder (pos a) b = mod-le a (unsigned_abs b)
abs_remainder (negsuc a) b = rw (abs_neg (suc a % unsigned_abs b)) (mod-le (suc a) (unsigned_abs b))

-- ---- the least power of two that reaches a number

pub log_up-small : (most v : ℕ) → v ≤ 1 → log_up most v ≡ 0
log_up-small zero v h = refl
log_up-small (suc most) v h =
    let small : nat_lt 1 v ≡ false = le-ltb 1 v h in
    rw small refl

pub log_up-is : (most v j : ℕ) → v ≤ 2 ^ most → 2 ^ j < v → v ≤ 2 ^ suc j → log_up most v ≡ suc j
log_up-is zero v j h low high = absurd (omega (arith, h, low, pow_pos j))
log_up-is (suc most) v zero h low high =
    let two : v ≡ 2 = omega (arith, low, high) in
    let one : log_up most 1 ≡ 0 = log_up-small most 1 (omega arith) in
    rw two (ap suc one)
log_up-is (suc most) v (suc j) h low high =
    let big : nat_lt 1 v ≡ true = lt-ltb 1 v (omega (arith, low, pow_pos (suc j))) in
    let half = log_up-is most ((v + 1) / 2) j (omega (arith, h, pow-suc 2 most)) (omega (arith, low, pow-suc 2 j)) (omega (arith, high, pow-suc 2 (suc j))) in
    rw big (ap suc half)
