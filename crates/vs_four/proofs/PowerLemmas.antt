-- Powers modulo a number, by squares.
use Rattle.std.proofs.Common.{◌≡◌, ℕ, zero, suc, ◌+◌, ◌*◌, ◌/◌, ◌%◌, ◌^◌, ◌<◌, ◌≤◌, ◌==◌, Bool, true, false, if◌then◌else◌, ◌&&◌, true≢false, ℤ, pos, negsuc, int_lt, unsigned_abs, Some, None, List, length, refl, sym, ap, ◌∙◌, arith}
use Rattle.std.proofs.lemmas.Bool.{eqb-true, eqb-false}
use Rattle.std.proofs.lemmas.Nat.{mul-mod_second, pow-mod, mul-pow, pow-add}
use Rattle.std.proofs.Math.Nat.{mul_comm, mul_assoc, pow-suc, pow-zero, mod-eq_of_lt}
use Rattle.std.proofs.lemmas.Int.{fits_signed_from_abs, to_z-of_z}
use mir.Syntax.{w128}
use mir.Val.{of_z, to_z}
use Rattle.vs_four.specs.declared.Bit4.{Bit4}
use Rattle.vs_four.specs.Logic.{all_known}
use Rattle.vs_four.specs.Numbers.{number, integer, bits_of, reciprocal, raised, pow}
use Rattle.vs_four.proofs.NumberLemmas.{bits_of-longer}

-- half the exponent, of the square
halved : (s k M : ℕ) → (s * s % M) ^ k % M ≡ s ^ (k + k) % M
halved s k M = pow-mod (s * s) k M ∙ ap (λ x. x % M) (mul-pow s s k ∙ sym (pow-add s k k))

-- the product of a power is not changed by half the exponent
pub even_step : (p s n M : ℕ) → n % 2 ≡ 0 → p * (s * s % M) ^ (n / 2) % M ≡ p * s ^ n % M
even_step p s n M h =
    let e : n / 2 + n / 2 ≡ n = omega (arith, h) in
    sym (mul-mod_second p ((s * s % M) ^ (n / 2)) M) ∙ ap (λ x. p * x % M) (halved s (n / 2) M ∙ ap (λ k. s ^ k % M) e) ∙ mul-mod_second p (s ^ n) M

-- where the exponent is odd, the square goes once into the product
pub odd_step : (p s n M : ℕ) → n % 2 ≡ 1 → (p * s % M) * (s * s % M) ^ (n / 2) % M ≡ p * s ^ n % M
odd_step p s n M h =
    let t = (s * s % M) ^ (n / 2) in
    let e : n / 2 + n / 2 + 1 ≡ n = omega (arith, h) in
    let one : s ^ 1 ≡ s = pow-suc s 0 ∙ ap (λ (x : ℕ). x * s) (pow-zero s) ∙ omega arith in
    let joined : s * s ^ (n / 2 + n / 2) ≡ s ^ n = mul_comm s (s ^ (n / 2 + n / 2)) ∙ ap (λ x. s ^ (n / 2 + n / 2) * x) (sym one) ∙ sym (pow-add s (n / 2 + n / 2) 1) ∙ ap (λ k. s ^ k) e in
    ap (λ x. x % M) (mul_comm (p * s % M) t) ∙ mul-mod_second t (p * s) M ∙ ap (λ x. x % M) (mul_comm t (p * s)) ∙ sym (mul-mod_second (p * s) t M)
    ∙ ap (λ x. p * s * x % M) (halved s (n / 2) M) ∙ mul-mod_second (p * s) (s ^ (n / 2 + n / 2)) M ∙ ap (λ x. x % M) (mul_assoc p s (s ^ (n / 2 + n / 2)) ∙ ap (λ x. p * x) joined)

-- one turn of the powers by squares
pub step : (p s n M : ℕ) → (if n % 2 == 1 then p * s % M else p) * (s * s % M) ^ (n / 2) % M ≡ p * s ^ n % M
step p s n M = by (n % 2 == 1) refl
  where
    by : (b : Bool) → (n % 2 == 1) ≡ b → (if b then p * s % M else p) * (s * s % M) ^ (n / 2) % M ≡ p * s ^ n % M
    by true e = odd_step p s n M (eqb-true (n % 2) 1 e)
    by false e = even_step p s n M (let f = eqb-false (n % 2) 1 e in omega arith)

-- a power of what is left at the end
pub no_more : (p s n M : ℕ) → n ≤ 0 → p < M → p ≡ p * s ^ n % M
no_more p s n M h k =
    let z : n ≡ 0 = omega arith in
    let one : p * s ^ n ≡ p = ap (λ (m : ℕ). p * s ^ m) z ∙ ap (λ (x : ℕ). p * x) (pow-zero s) ∙ omega arith in
    sym (ap (λ (x : ℕ). x % M) one ∙ mod-eq_of_lt k)

pub at_first : (s n M : ℕ) → 1 * s ^ n % M ≡ s ^ n % M
at_first s n M = let e : 1 * s ^ n ≡ s ^ n = omega arith in ap (λ (x : ℕ). x % M) e

-- ---- negative exponents

pub other_reciprocal : (z : ℤ) (exponent : ℕ) → (z ≡ pos 0 → ⊥) → (z ≡ pos 1 → ⊥) → (z ≡ negsuc 0 → ⊥) → reciprocal z exponent ≡ Some (pos 0)
other_reciprocal (pos zero) exponent f g h = absurd (f refl)
other_reciprocal (pos (suc zero)) exponent f g h = absurd (g refl)
other_reciprocal (pos (suc (suc n))) exponent f g h = refl
other_reciprocal (negsuc zero) exponent f g h = absurd (h refl)
other_reciprocal (negsuc (suc n)) exponent f g h = refl

-- ---- exponents that aren't negative

raised_up : (signed : Bool) (a : List Bit4) (z : ℤ) → int_lt z (pos 0) ≡ false → raised signed a z ≡ Some (bits_of (length a) (number a ^ unsigned_abs z))
raised_up signed a (pos n) e = refl
raised_up signed a (negsuc n) e = absurd (true≢false e)

both_true : (p q : Bool) → p ≡ true → q ≡ true → (p && q) ≡ true
both_true true q h k = k
both_true false q h k = cc

pub known_both : (a b : List Bit4) (p q : Bool) → p ≡ all_known a → p ≡ true → q ≡ all_known b → q ≡ true → (all_known a && all_known b) ≡ true
known_both a b p q h i j k = both_true (all_known a) (all_known b) (sym h ∙ i) (sym j ∙ k)

-- a power as the code has it
pub power_is : (signed u : Bool) (a b : List Bit4) (z : ℤ) (n p : ℕ) → (all_known a && all_known b) ≡ true → z ≡ integer u b → unsigned_abs z < 2 ^ 64 → int_lt (to_z w128 (of_z w128 z)) (pos 0) ≡ false
    → p ≡ number a ^ unsigned_abs (to_z w128 (of_z w128 z)) % 2 ^ 64 → n ≡ length a → length a ≤ 64 → Some (bits_of n p) ≡ pow signed u a b
power_is signed u a b z n p known is fits not_negative power long most =
    let same : to_z w128 (of_z w128 z) ≡ z = to_z-of_z w128 z (fits_signed_from_abs w128 z (omega (arith, fits))) in
    let up : int_lt z (pos 0) ≡ false = ap (λ (y : ℤ). int_lt y (pos 0)) (sym same) ∙ not_negative in
    let exact : p ≡ number a ^ unsigned_abs z % 2 ^ 64 = power ∙ ap (λ (y : ℤ). number a ^ unsigned_abs y % 2 ^ 64) same in
    ap (λ (m : ℕ). Some (bits_of m p)) long ∙ ap (λ (m : ℕ). Some (bits_of (length a) m)) exact
    ∙ ap (λ (bits : List Bit4). Some bits) (bits_of-longer (length a) 64 (number a ^ unsigned_abs z) most)
    ∙ sym (raised_up signed a z up) ∙ ap (raised signed a) is ∙ ap (λ (k : Bool). if k then raised signed a (integer u b) else None) (sym known)
