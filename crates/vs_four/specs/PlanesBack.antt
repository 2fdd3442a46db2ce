-- The planes of a vector give the vector's planes back.
use Rattle.std.specs.Prelude.{◌≡◌, ℕ, zero, suc, ◌+◌, ◌*◌, ◌/◌, ◌%◌, ◌^◌, ◌<◌, length, refl}
use Rattle.std.proofs.Common.{ap, ◌∙◌, subst}
use Rattle.std.proofs.Math.Nat.{not-suc-le-zero, le_of_suc-le-suc, mod-lt, zero-lt-suc, div-lt_iff_lt-mul, mod-add-div, pow-suc}
use Rattle.vs_four.specs.Planes.{value_digit, unknown_digit, decode, bits_of_planes, value_plane, unknown_plane}

-- a number modulo 2 is 0 or 1
pub by_bit : (P : ℕ → Type 0) → P 0 → P 1 → (n : ℕ) → P (n % 2)
by_bit P p q n = at (n % 2) (mod-lt n (zero-lt-suc 1)) where
  at : (m : ℕ) → m < 2 → P m
  at zero h = p
  at (suc zero) h = q
  at (suc (suc m)) h = absurd (not-suc-le-zero (le_of_suc-le-suc (le_of_suc-le-suc h)))

pub length-planes : (n v u : ℕ) → length (bits_of_planes n v u) ≡ n
unfolding bits_of_planes
length-planes zero v u = refl
length-planes (suc n) v u = ap suc (length-planes n (v / 2) (u / 2))

value_digit-decode : (v u : ℕ) → value_digit (decode (v % 2) (u % 2)) ≡ v % 2
value_digit-decode v u = by_bit (λ p. value_digit (decode p (u % 2)) ≡ p) (by_bit (λ q. value_digit (decode 0 q) ≡ 0) refl refl u) (by_bit (λ q. value_digit (decode 1 q) ≡ 1) refl refl u) v

unknown_digit-decode : (v u : ℕ) → unknown_digit (decode (v % 2) (u % 2)) ≡ u % 2
unknown_digit-decode v u = by_bit (λ p. unknown_digit (decode p (u % 2)) ≡ u % 2) (by_bit (λ q. unknown_digit (decode 0 q) ≡ q) refl refl u) (by_bit (λ q. unknown_digit (decode 1 q) ≡ q) refl refl u) v

below_one : (v : ℕ) → v < 1 → 0 ≡ v
below_one zero h = refl
below_one (suc v) h = absurd (not-suc-le-zero (le_of_suc-le-suc h))

half_below : (n v : ℕ) → v < 2 ^ suc n → v / 2 < 2 ^ n
half_below n v h = (div-lt_iff_lt-mul (zero-lt-suc 1)).1 (subst (λ (m : ℕ). v < m) (pow-suc 2 n) h)

-- from the lowest digit and the half
whole : (v d h : ℕ) → d ≡ v % 2 → h ≡ v / 2 → d + 2 * h ≡ v
whole v d h p q = ap (λ (x : ℕ). x + 2 * h) p ∙ ap (λ (x : ℕ). v % 2 + 2 * x) q ∙ mod-add-div v 2

pub value_plane-planes : (n v u : ℕ) → v < 2 ^ n → value_plane (bits_of_planes n v u) ≡ v
unfolding bits_of_planes value_plane
value_plane-planes zero v u h = below_one v h
value_plane-planes (suc n) v u h = whole v _ _ (value_digit-decode v u) (value_plane-planes n (v / 2) (u / 2) (half_below n v h))

pub unknown_plane-planes : (n v u : ℕ) → u < 2 ^ n → unknown_plane (bits_of_planes n v u) ≡ u
unfolding bits_of_planes unknown_plane
unknown_plane-planes zero v u h = below_one u h
unknown_plane-planes (suc n) v u h = whole u _ _ (unknown_digit-decode v u) (unknown_plane-planes n (v / 2) (u / 2) (half_below n u h))
