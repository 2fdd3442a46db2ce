-- How operations on planes go through halving, and what they do to the vector.
use Rattle.std.proofs.Common.{◌≡◌, ℕ, zero, suc, ◌+◌, ◌-◌, ◌*◌, ◌/◌, ◌%◌, ◌^◌, ◌<◌, ◌≤◌, List, [], ◌∷◌, length, get_or, drop, slice_get, Some, bit_and, bit_or, bit_xor, refl, sym, ap, ◌∙◌, subst, arith}
use Rattle.std.proofs.lemmas.Nat.{pow_pos, shr-shr, and_shr, and_mod, or_shr, or_mod, xor_shr, xor_mod}
use Rattle.std.proofs.lemmas.Nat.{and_le_l}
use Rattle.std.proofs.Math.Nat.{pow-suc, pow-le-pow_right}
use Rattle.std.proofs.Math.Seq.{drop-cons}
use Rattle.std.proofs.lemmas.List.{drop_all, length-drop}
use Rattle.vs_four.specs.declared.Bit4.{Bit4}
use Rattle.vs_four.specs.declared.Bit4.TheVariants.{Zero, One, X, Z}
use Rattle.vs_four.specs.Planes.{value_digit, unknown_digit, decode, bits_of_planes, value_plane, unknown_plane}
use Rattle.vs_four.specs.PlanesBack.{by_bit, length-planes}
use Rattle.vs_four.specs.Logic.{map2}

-- ---- the vector of its planes

value_plane-below : (xs : List Bit4) → value_plane xs < 2 ^ length xs
unfolding value_plane
value_plane-below [] = omega arith
value_plane-below (Zero ∷ xs) = omega (arith, value_plane-below xs, pow-suc 2 (length xs))
value_plane-below (One ∷ xs) = omega (arith, value_plane-below xs, pow-suc 2 (length xs))
value_plane-below (X ∷ xs) = omega (arith, value_plane-below xs, pow-suc 2 (length xs))
value_plane-below (Z ∷ xs) = omega (arith, value_plane-below xs, pow-suc 2 (length xs))

unknown_plane-below : (xs : List Bit4) → unknown_plane xs < 2 ^ length xs
unfolding unknown_plane
unknown_plane-below [] = omega arith
unknown_plane-below (Zero ∷ xs) = omega (arith, unknown_plane-below xs, pow-suc 2 (length xs))
unknown_plane-below (One ∷ xs) = omega (arith, unknown_plane-below xs, pow-suc 2 (length xs))
unknown_plane-below (X ∷ xs) = omega (arith, unknown_plane-below xs, pow-suc 2 (length xs))
unknown_plane-below (Z ∷ xs) = omega (arith, unknown_plane-below xs, pow-suc 2 (length xs))

-- the two planes of a vector are below 2 ^ length
pub planes-below : (xs : List Bit4) → (value_plane xs < 2 ^ length xs) × (unknown_plane xs < 2 ^ length xs)
planes-below xs = (value_plane-below xs, unknown_plane-below xs)

low_digit : (m h v : ℕ) → v ≡ m + 2 * h → m < 2 → (v % 2 ≡ m) × (v / 2 ≡ h)
low_digit m h v e l = (omega arith, omega arith)

value_digit-below : (b : Bit4) → value_digit b < 2
value_digit-below Zero = omega arith
value_digit-below One = omega arith
value_digit-below X = omega arith
value_digit-below Z = omega arith

unknown_digit-below : (b : Bit4) → unknown_digit b < 2
unknown_digit-below Zero = omega arith
unknown_digit-below One = omega arith
unknown_digit-below X = omega arith
unknown_digit-below Z = omega arith

pub digits-below : (b : Bit4) → (value_digit b < 2) × (unknown_digit b < 2)
digits-below b = (value_digit-below b, unknown_digit-below b)

decode-digits : (b : Bit4) → decode (value_digit b) (unknown_digit b) ≡ b
decode-digits Zero = refl
decode-digits One = refl
decode-digits X = refl
decode-digits Z = refl

pub planes-back : (xs : List Bit4) → bits_of_planes (length xs) (value_plane xs) (unknown_plane xs) ≡ xs
unfolding bits_of_planes value_plane unknown_plane
planes-back [] = refl
planes-back (b ∷ xs) =
    let v = low_digit (value_digit b) (value_plane xs) _ refl (value_digit-below b) in
    let u = low_digit (unknown_digit b) (unknown_plane xs) _ refl (unknown_digit-below b) in
    rw (v.0, v.1, u.0, u.1, decode-digits b, planes-back xs) refl

-- the planes of the last part of a list, and of that with one more bit before it
pub planes_of_end : (xs : List Bit4) (n : ℕ) → length xs ≤ n → (value_plane (drop n xs) ≡ 0) × (unknown_plane (drop n xs) ≡ 0)
unfolding value_plane unknown_plane
planes_of_end xs n h = rw (drop_all n xs h) (refl, refl)

pub planes_of_more : (xs : List Bit4) (n : ℕ) → 0 < n → n ≤ length xs
    → (value_plane (drop (n - 1) xs) ≡ value_digit (get_or xs (n - 1) Zero) + 2 * value_plane (drop n xs))
    × (unknown_plane (drop (n - 1) xs) ≡ unknown_digit (get_or xs (n - 1) Zero) + 2 * unknown_plane (drop n xs))
unfolding value_plane unknown_plane
planes_of_more xs zero some h = absurd (omega (arith, some))
planes_of_more xs (suc n) some h =
    let m : suc n - 1 ≡ n = omega arith in
    rw (m, drop-cons xs n Zero (omega (arith, h))) (refl, refl)

pub planes_fit : (xs : List Bit4) (n : ℕ) → length xs ≤ 64 → (value_plane (drop n xs) < 2 ^ 64) × (unknown_plane (drop n xs) < 2 ^ 64)
planes_fit xs n h =
    let most : 2 ^ length (drop n xs) ≤ 2 ^ 64 = pow-le-pow_right (omega arith) {i = length (drop n xs)} {j = 64} (omega (arith, length-drop n xs)) in
    (omega (arith, most, value_plane-below (drop n xs)), omega (arith, most, unknown_plane-below (drop n xs)))

-- ---- one bit

pub slice_get-planes : (n v u k : ℕ) → k < n → slice_get (bits_of_planes n v u) k ≡ Some (decode (v / 2 ^ k % 2) (u / 2 ^ k % 2))
unfolding bits_of_planes
slice_get-planes zero v u k h = absurd (omega (arith, h))
slice_get-planes (suc n) v u zero h = let p : v / 1 ≡ v = omega arith in let q : u / 1 ≡ u = omega arith in rw (p, q) refl
slice_get-planes (suc n) v u (suc k) h =
    let at = slice_get-planes n (v / 2) (u / 2) k (omega (arith, h)) in
    let p : v / 2 ^ (suc k) ≡ v / 2 / 2 ^ k = sym (shr-shr v 1 k ∙ ap (λ (x : ℕ). v / 2 ^ x) (omega arith)) in
    let q : u / 2 ^ (suc k) ≡ u / 2 / 2 ^ k = sym (shr-shr u 1 k ∙ ap (λ (x : ℕ). u / 2 ^ x) (omega arith)) in
    rw (p, q) at

-- ---- operations bit by bit

pub and_half : (a b : ℕ) → bit_and a b / 2 ≡ bit_and (a / 2) (b / 2)
and_half a b = and_shr a b 1

pub and_low : (a b : ℕ) → bit_and a b % 2 ≡ bit_and (a % 2) (b % 2)
and_low a b = and_mod a b 1

pub or_half : (a b : ℕ) → bit_or a b / 2 ≡ bit_or (a / 2) (b / 2)
or_half a b = or_shr a b 1

pub or_low : (a b : ℕ) → bit_or a b % 2 ≡ bit_or (a % 2) (b % 2)
or_low a b = or_mod a b 1

pub xor_half : (a b : ℕ) → bit_xor a b / 2 ≡ bit_xor (a / 2) (b / 2)
xor_half a b = xor_shr a b 1

pub xor_low : (a b : ℕ) → bit_xor a b % 2 ≡ bit_xor (a % 2) (b % 2)
xor_low a b = xor_mod a b 1

-- n ones
pub ones_half : (n : ℕ) → (2 ^ suc n - 1) / 2 ≡ 2 ^ n - 1
ones_half n = omega (arith, pow-suc 2 n, pow_pos n)

pub ones_low : (n : ℕ) → (2 ^ suc n - 1) % 2 ≡ 1
ones_low n = omega (arith, pow-suc 2 n, pow_pos n)

-- a function of a mask and four planes that works bit by bit
pub record IsBitwise (f : ℕ → ℕ → ℕ → ℕ → ℕ → ℕ) : Type 0 where
  pub half : (m a b c d : ℕ) → f m a b c d / 2 ≡ f (m / 2) (a / 2) (b / 2) (c / 2) (d / 2)
  pub low : (m a b c d : ℕ) → f m a b c d % 2 ≡ f (m % 2) (a % 2) (b % 2) (c % 2) (d % 2)

-- each of the sixteen cases of two bits
pub every_pair : (P : ℕ → ℕ → ℕ → ℕ → Type 0)
    → P 0 0 0 0 → P 0 0 1 0 → P 0 0 0 1 → P 0 0 1 1
    → P 1 0 0 0 → P 1 0 1 0 → P 1 0 0 1 → P 1 0 1 1
    → P 0 1 0 0 → P 0 1 1 0 → P 0 1 0 1 → P 0 1 1 1
    → P 1 1 0 0 → P 1 1 1 0 → P 1 1 0 1 → P 1 1 1 1
    → (a b c d : ℕ) → P (a % 2) (b % 2) (c % 2) (d % 2)
every_pair P z0 z1 z2 z3 o0 o1 o2 o3 h0 h1 h2 h3 x0 x1 x2 x3 a b c d =
    let pair : (s t : ℕ) → P s t 0 0 → P s t 1 0 → P s t 0 1 → P s t 1 1 → P s t (c % 2) (d % 2) =
    λ s t p q r u. by_bit (λ m. P s t m (d % 2)) (by_bit (λ k. P s t 0 k) p r d) (by_bit (λ k. P s t 1 k) q u d) c in
    by_bit (λ m. P m (b % 2) (c % 2) (d % 2))
    (by_bit (λ k. P 0 k (c % 2) (d % 2)) (pair 0 0 z0 z1 z2 z3) (pair 0 1 h0 h1 h2 h3) b)
    (by_bit (λ k. P 1 k (c % 2) (d % 2)) (pair 1 0 o0 o1 o2 o3) (pair 1 1 x0 x1 x2 x3) b)
    a

-- planes that are functions bit by bit of two vectors' planes are the vector of the operator, if one bit of them is
pub zip-planes : (op : Bit4 → Bit4 → Bit4) (f g : ℕ → ℕ → ℕ → ℕ → ℕ → ℕ) → IsBitwise f → IsBitwise g
    → ((a b c d : ℕ) → decode (f 1 (a % 2) (b % 2) (c % 2) (d % 2)) (g 1 (a % 2) (b % 2) (c % 2) (d % 2)) ≡ op (decode (a % 2) (b % 2)) (decode (c % 2) (d % 2)))
    → (n a b c d : ℕ) → bits_of_planes n (f (2 ^ n - 1) a b c d) (g (2 ^ n - 1) a b c d) ≡ map2 op (bits_of_planes n a b) (bits_of_planes n c d)
unfolding bits_of_planes
zip-planes op f g F G table zero a b c d = refl
zip-planes op f g F G table (suc n) a b c d =
    rw (F.low (2 ^ suc n - 1) a b c d, G.low (2 ^ suc n - 1) a b c d, F.half (2 ^ suc n - 1) a b c d, G.half (2 ^ suc n - 1) a b c d, ones_low n, ones_half n, table a b c d)
    (ap (λ xs. op (decode (a % 2) (b % 2)) (decode (c % 2) (d % 2)) ∷ xs) (zip-planes op f g F G table n (a / 2) (b / 2) (c / 2) (d / 2)))

-- ---- what a proof knows of an operand

pub record Operand (n v u : ℕ) (a : List Bit4) : Type 0 where
  pub planes : bits_of_planes n v u ≡ a
  pub count : length a ≡ n
  pub some : 1 ≤ n
  pub most : n ≤ 64
  pub value_below : v < 2 ^ n
  pub unknown_below : u < 2 ^ n

pub operand : (n v u : ℕ) (a : List Bit4) → bits_of_planes n v u ≡ a → (1 ≤ n) × (n ≤ 64) × (v < 2 ^ n) × (u < 2 ^ n) → Operand n v u a
operand n v u a e i = record {
  planes = e;
  count = sym (ap length e) ∙ length-planes n v u;
  some = i.0;
  most = i.1;
  value_below = i.2;
  unknown_below = i.3;
}

-- an operand of the same length
pub operand_like : (n m v u : ℕ) (a b : List Bit4) → length a ≡ length b → length a ≡ n → Operand m v u b → Operand n v u b
operand_like n m v u a b same count o =
    let P : ℕ → Type 0 = λ k. Operand k v u b in
    subst P (sym o.count ∙ sym same ∙ count) o

pub and_below : (n a b : ℕ) → a < 2 ^ n → bit_and a b < 2 ^ n
and_below n a b h = omega (arith, and_le_l a b)
