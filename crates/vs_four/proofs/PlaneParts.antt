-- Parts of planes, and what planes say of known bits and numbers.
use Rattle.std.proofs.Common.{◌≡◌, ℕ, zero, suc, ◌+◌, ◌-◌, ◌*◌, ◌/◌, ◌%◌, ◌^◌, ◌<◌, ◌≤◌, ◌&&◌, ◌==◌, ◌∷◌, ◌++◌, take, drop, replicate, refl, sym, ap, ap₂, add-one, ◌∙◌, arith}
use Rattle.std.proofs.lemmas.Nat.{pow_pos, shr-shr, mod-pow-add}
use Rattle.std.proofs.lemmas.Bool.{eq-eqb}
use Rattle.std.proofs.lemmas.Bool.Decides.{nat_tests}
use Rattle.std.proofs.Math.Nat.{pow-suc, suc-add, zero-add}
use Rattle.vs_four.specs.declared.Bit4.{Bit4}
use Rattle.vs_four.specs.declared.Bit4.TheVariants.{Zero, One, X, Z}
use Rattle.vs_four.specs.Planes.{value_digit, unknown_digit, decode, bits_of_planes}
use Rattle.vs_four.specs.PlanesBack.{by_bit}
use Rattle.vs_four.specs.Tables.{is_known, of_bool}
use Rattle.vs_four.specs.Logic.{all_known}
use Rattle.vs_four.specs.Lengths.{last_or}
use Rattle.vs_four.specs.Numbers.{digit, number, bits_of}

-- ---- parts

half_joined : (n v w : ℕ) → ((v + 2 ^ suc n * w) / 2 ≡ v / 2 + 2 ^ n * w) × ((v + 2 ^ suc n * w) % 2 ≡ v % 2)
half_joined n v w =
    let e : 2 ^ suc n * w ≡ 2 * (2 ^ n * w) = rw (pow-suc 2 n) (omega arith) in
    (omega (arith, e), omega (arith, e))

half_below : (n v : ℕ) → v < 2 ^ suc n → v / 2 < 2 ^ n
half_below n v h = omega (arith, h, pow-suc 2 n)

-- the higher planes above the lower ones
pub append-planes : (n m v u w t : ℕ) → v < 2 ^ n → u < 2 ^ n
    → bits_of_planes (n + m) (v + 2 ^ n * w) (u + 2 ^ n * t) ≡ bits_of_planes n v u ++ bits_of_planes m w t
unfolding bits_of_planes
append-planes zero m v u w t h k =
    let v0 : v + 1 * w ≡ w = omega arith in
    let u0 : u + 1 * t ≡ t = omega arith in
    rw (v0, u0, zero-add m) refl
append-planes (suc n) m v u w t h k =
    let a = half_joined n v w in
    let b = half_joined n u t in
    rw (suc-add n m, a.0, a.1, b.0, b.1) (ap (λ xs. decode (v % 2) (u % 2) ∷ xs) (append-planes n m (v / 2) (u / 2) w t (half_below n v h) (half_below n u k)))

-- the low n bits
pub take-planes : (n m v u : ℕ) → n ≤ m → take n (bits_of_planes m v u) ≡ bits_of_planes n v u
unfolding bits_of_planes
take-planes zero m v u h = refl
take-planes (suc n) zero v u h = absurd (omega (arith, h))
take-planes (suc n) (suc m) v u h = ap (λ xs. decode (v % 2) (u % 2) ∷ xs) (take-planes n m (v / 2) (u / 2) (omega (arith, h)))

half_cut : (n v : ℕ) → (v % 2 ^ suc n / 2 ≡ v / 2 % 2 ^ n) × (v % 2 ^ suc n % 2 ≡ v % 2)
half_cut n v =
    let e : v % 2 ^ suc n ≡ v / 2 % 2 ^ n * 2 + v % 2 = ap (λ (k : ℕ). v % 2 ^ k) (sym (add-one n)) ∙ mod-pow-add v n 1 in
    (omega (arith, e), omega (arith, e))

-- bits above the length don't matter
pub mod-planes : (n v u : ℕ) → bits_of_planes n (v % 2 ^ n) (u % 2 ^ n) ≡ bits_of_planes n v u
unfolding bits_of_planes
mod-planes zero v u = refl
mod-planes (suc n) v u =
    let a = half_cut n v in
    let b = half_cut n u in
    rw (a.0, a.1, b.0, b.1) (ap (λ xs. decode (v % 2) (u % 2) ∷ xs) (mod-planes n (v / 2) (u / 2)))

-- without the low k bits
pub drop-planes : (k n v u : ℕ) → drop k (bits_of_planes (k + n) v u) ≡ bits_of_planes n (v / 2 ^ k) (u / 2 ^ k)
unfolding bits_of_planes
drop-planes zero n v u =
    let p : v / 1 ≡ v = omega arith in
    let q : u / 1 ≡ u = omega arith in
    rw (p, q, zero-add n) refl
drop-planes (suc k) n v u =
    let p : v / 2 ^ suc k ≡ v / 2 / 2 ^ k = sym (shr-shr v 1 k ∙ ap (λ (x : ℕ). v / 2 ^ x) (omega arith)) in
    let q : u / 2 ^ suc k ≡ u / 2 / 2 ^ k = sym (shr-shr u 1 k ∙ ap (λ (x : ℕ). u / 2 ^ x) (omega arith)) in
    rw (suc-add k n, p, q) (drop-planes k n (v / 2) (u / 2))

half_ones : (n d : ℕ) → d < 2 → (d * (2 ^ suc n - 1) / 2 ≡ d * (2 ^ n - 1)) × (d * (2 ^ suc n - 1) % 2 ≡ d)
half_ones n zero h = (omega arith, omega arith)
half_ones n (suc zero) h = (omega (arith, pow-suc 2 n, pow_pos n), omega (arith, pow-suc 2 n, pow_pos n))
half_ones n (suc (suc d)) h = absurd (omega (arith, h))

digits_below : (b : Bit4) → (value_digit b < 2) × (unknown_digit b < 2)
digits_below Zero = (omega arith, omega arith)
digits_below One = (omega arith, omega arith)
digits_below X = (omega arith, omega arith)
digits_below Z = (omega arith, omega arith)

decode_of : (b : Bit4) → decode (value_digit b) (unknown_digit b) ≡ b
decode_of Zero = refl
decode_of One = refl
decode_of X = refl
decode_of Z = refl

-- one bit, n times
pub replicate-planes : (n : ℕ) (b : Bit4) → bits_of_planes n (value_digit b * (2 ^ n - 1)) (unknown_digit b * (2 ^ n - 1)) ≡ replicate n b
unfolding bits_of_planes
replicate-planes zero b = refl
replicate-planes (suc n) b =
    let v = half_ones n (value_digit b) (digits_below b).0 in
    let u = half_ones n (unknown_digit b) (digits_below b).1 in
    rw (v.0, v.1, u.0, u.1, decode_of b) (ap (λ xs. b ∷ xs) (replicate-planes n b))

-- the most significant bit
pub last-planes : (n v u : ℕ) (d : Bit4) → last_or d (bits_of_planes (suc n) v u) ≡ decode (v / 2 ^ n % 2) (u / 2 ^ n % 2)
unfolding bits_of_planes
last-planes zero v u d =
    let p : v / 1 ≡ v = omega arith in
    let q : u / 1 ≡ u = omega arith in
    rw (p, q) refl
last-planes (suc n) v u d =
    let p : v / 2 ^ suc n ≡ v / 2 / 2 ^ n = sym (shr-shr v 1 n ∙ ap (λ (x : ℕ). v / 2 ^ x) (omega arith)) in
    let q : u / 2 ^ suc n ≡ u / 2 / 2 ^ n = sym (shr-shr u 1 n ∙ ap (λ (x : ℕ). u / 2 ^ x) (omega arith)) in
    rw (p, q) (last-planes n (v / 2) (u / 2) (decode (v % 2) (u % 2)))

-- ---- known bits and numbers

known-decode : (v u : ℕ) → is_known (decode (v % 2) (u % 2)) ≡ (u % 2 == 0)
known-decode v u = by_bit (λ m. is_known (decode m (u % 2)) ≡ (u % 2 == 0)) (by_bit (λ k. is_known (decode 0 k) ≡ (k == 0)) refl refl u) (by_bit (λ k. is_known (decode 1 k) ≡ (k == 0)) refl refl u) v

halves_zero : (u : ℕ) → (u % 2 == 0 && u / 2 == 0) ≡ (u == 0)
halves_zero u = grind (arith, nat_tests)

-- all bits are known where the second plane is 0
pub known-planes : (n v u : ℕ) → u < 2 ^ n → all_known (bits_of_planes n v u) ≡ (u == 0)
unfolding bits_of_planes
known-planes zero v u h = sym (eq-eqb u 0 (omega (arith, h)))
known-planes (suc n) v u h = ap₂ ◌&&◌ (known-decode v u) (known-planes n (v / 2) (u / 2) (half_below n u h)) ∙ halves_zero u

-- the number of a known vector is its first plane
pub number-planes : (n v : ℕ) → v < 2 ^ n → number (bits_of_planes n v 0) ≡ v
unfolding bits_of_planes
number-planes zero v h = omega (arith, h)
number-planes (suc n) v h =
    let d : digit (decode (v % 2) 0) ≡ v % 2 = by_bit (λ m. digit (decode m 0) ≡ m) refl refl v in
    omega (arith, d, number-planes n (v / 2) (half_below n v h))

-- the low n bits of a number
pub bits_of-planes : (n m : ℕ) → bits_of_planes n m 0 ≡ bits_of n m
unfolding bits_of_planes
bits_of-planes zero m = refl
bits_of-planes (suc n) m = ap₂ ◌∷◌ (by_bit (λ d. decode d 0 ≡ of_bool (d == 1)) refl refl m) (bits_of-planes n (m / 2))
