-- The operators bit by bit on planes.
use Rattle.std.proofs.Common.{◌≡◌, ℕ, zero, suc, ◌+◌, ◌-◌, ◌/◌, ◌%◌, ◌^◌, ◌<◌, ◌∷◌, map, bit_and, bit_or, bit_xor, refl, ap₂, arith}
use Rattle.std.proofs.lemmas.Nat.{and-not, and_comm}
use Rattle.std.proofs.Math.Nat.{pow-suc}
use Rattle.vs_four.specs.Planes.{decode, bits_of_planes}
use Rattle.vs_four.specs.PlanesBack.{by_bit}
use Rattle.vs_four.specs.Tables.{not_bit, and_bit, or_bit, xor_bit, xnor_bit, merge_bit, same_bit, casez_bit, casex_bit}
use Rattle.vs_four.specs.Logic.{map2}
use Rattle.vs_four.proofs.PlanesLemmas.{and_half, and_low, or_half, or_low, xor_half, xor_low, ones_half, ones_low, every_pair, zip-planes}

-- the ones of a that b hasn't
abbrev pub less_ones : ℕ → ℕ → ℕ
less_ones a b = bit_xor a (bit_and a b)

pub less_ones-low : (a b : ℕ) → less_ones a b % 2 ≡ less_ones (a % 2) (b % 2)
less_ones-low a b = simp (xor_low, and_low)

pub less_ones-half : (a b : ℕ) → less_ones a b / 2 ≡ less_ones (a / 2) (b / 2)
less_ones-half a b = simp (xor_half, and_half)

pub by_two : (P : ℕ → ℕ → Type 0) → P 0 0 → P 0 1 → P 1 0 → P 1 1 → (v u : ℕ) → P (v % 2) (u % 2)
by_two P p q r s v u = by_bit (λ m. P m (u % 2)) (by_bit (λ k. P 0 k) p q u) (by_bit (λ k. P 1 k) r s u) v

-- the ones of a are those that b hasn't and those that b has
pub less_ones-add : (n a b : ℕ) → a < 2 ^ n → less_ones a b + bit_and a b ≡ a
less_ones-add zero a b h =
    let e : a ≡ 0 = omega (arith, h) in
    rw e refl
less_ones-add (suc n) a b h =
    let low : less_ones (a % 2) (b % 2) + bit_and (a % 2) (b % 2) ≡ a % 2 = by_two (λ x y. less_ones x y + bit_and x y ≡ x) refl refl refl refl a b in
    let half = less_ones-add n (a / 2) (b / 2) (omega (arith, h, pow-suc 2 n)) in
    omega (arith, low, half, less_ones-low a b, less_ones-half a b, and_low a b, and_half a b)

-- `a & !b` in w bits
pub and_complement : (w a b : ℕ) → a < 2 ^ w → b < 2 ^ w → bit_and a (2 ^ w - 1 - b) ≡ less_ones a b
and_complement w a b h k =
    let e : bit_and a (2 ^ w - 1 - b) ≡ bit_and (2 ^ w - 1 - b) a = and_comm a (2 ^ w - 1 - b) in
    let f : bit_and a b ≡ bit_and b a = and_comm a b in
    omega (arith, e, f, and-not w b a k h, less_ones-add w a b h)

pub not-planes : (n v u : ℕ) → bits_of_planes n (bit_or (bit_xor v (2 ^ n - 1)) u) u ≡ map not_bit (bits_of_planes n v u)
unfolding bits_of_planes
not-planes zero v u = refl
not-planes (suc n) v u =
    let table : decode (bit_or (bit_xor (v % 2) 1) (u % 2)) (u % 2) ≡ not_bit (decode (v % 2) (u % 2)) =
    by_bit (λ d. decode (bit_or (bit_xor d 1) (u % 2)) (u % 2) ≡ not_bit (decode d (u % 2)))
    (by_bit (λ e. decode (bit_or (bit_xor 0 1) e) e ≡ not_bit (decode 0 e)) refl refl u)
    (by_bit (λ e. decode (bit_or (bit_xor 1 1) e) e ≡ not_bit (decode 1 e)) refl refl u) v in
    rw (or_low, or_half, xor_low, xor_half, ones_low n, ones_half n)
    (ap₂ ◌∷◌ table (not-planes n (v / 2) (u / 2)))

-- the places where neither operand is 0
abbrev pub not_zero : ℕ → ℕ → ℕ → ℕ → ℕ
not_zero va ua vb ub = bit_and (bit_or va ua) (bit_or vb ub)

pub and-planes : (n va ua vb ub : ℕ) → bits_of_planes n (not_zero va ua vb ub) (bit_and (not_zero va ua vb ub) (bit_or ua ub)) ≡ map2 and_bit (bits_of_planes n va ua) (bits_of_planes n vb ub)
and-planes n va ua vb ub =
    zip-planes and_bit (λ m a b c d. not_zero a b c d) (λ m a b c d. bit_and (not_zero a b c d) (bit_or b d))
    (record { half = λ m a b c d. simp (and_half, or_half); low = λ m a b c d. simp (and_low, or_low) })
    (record { half = λ m a b c d. simp (and_half, or_half); low = λ m a b c d. simp (and_low, or_low) })
    (every_pair (λ a b c d. decode (not_zero a b c d) (bit_and (not_zero a b c d) (bit_or b d)) ≡ and_bit (decode a b) (decode c d))
    refl refl refl refl refl refl refl refl refl refl refl refl refl refl refl refl)
    n va ua vb ub

-- the places where some operand is 1, and where none is and some is unknown
abbrev pub some_one : ℕ → ℕ → ℕ → ℕ → ℕ
some_one va ua vb ub = bit_or (less_ones va ua) (less_ones vb ub)

abbrev pub or_unknown : ℕ → ℕ → ℕ → ℕ → ℕ
or_unknown va ua vb ub = less_ones (bit_or ua ub) (some_one va ua vb ub)

pub or-planes : (n va ua vb ub : ℕ) → bits_of_planes n (bit_or (some_one va ua vb ub) (or_unknown va ua vb ub)) (or_unknown va ua vb ub) ≡ map2 or_bit (bits_of_planes n va ua) (bits_of_planes n vb ub)
or-planes n va ua vb ub =
    zip-planes or_bit (λ m a b c d. bit_or (some_one a b c d) (or_unknown a b c d)) (λ m a b c d. or_unknown a b c d)
    (record { half = λ m a b c d. simp (and_half, or_half, xor_half); low = λ m a b c d. simp (and_low, or_low, xor_low) })
    (record { half = λ m a b c d. simp (and_half, or_half, xor_half); low = λ m a b c d. simp (and_low, or_low, xor_low) })
    (every_pair (λ a b c d. decode (bit_or (some_one a b c d) (or_unknown a b c d)) (or_unknown a b c d) ≡ or_bit (decode a b) (decode c d))
    refl refl refl refl refl refl refl refl refl refl refl refl refl refl refl refl)
    n va ua vb ub

pub xor-planes : (n va ua vb ub : ℕ) → bits_of_planes n (bit_or (bit_xor va vb) (bit_or ua ub)) (bit_or ua ub) ≡ map2 xor_bit (bits_of_planes n va ua) (bits_of_planes n vb ub)
xor-planes n va ua vb ub =
    zip-planes xor_bit (λ m a b c d. bit_or (bit_xor a c) (bit_or b d)) (λ m a b c d. bit_or b d)
    (record { half = λ m a b c d. simp (or_half, xor_half); low = λ m a b c d. simp (or_low, xor_low) })
    (record { half = λ m a b c d. or_half b d; low = λ m a b c d. or_low b d })
    (every_pair (λ a b c d. decode (bit_or (bit_xor a c) (bit_or b d)) (bit_or b d) ≡ xor_bit (decode a b) (decode c d))
    refl refl refl refl refl refl refl refl refl refl refl refl refl refl refl refl)
    n va ua vb ub

pub xnor-planes : (n va ua vb ub : ℕ) → bits_of_planes n (bit_or (bit_xor (bit_xor va vb) (2 ^ n - 1)) (bit_or ua ub)) (bit_or ua ub) ≡ map2 xnor_bit (bits_of_planes n va ua) (bits_of_planes n vb ub)
xnor-planes n va ua vb ub =
    zip-planes xnor_bit (λ m a b c d. bit_or (bit_xor (bit_xor a c) m) (bit_or b d)) (λ m a b c d. bit_or b d)
    (record { half = λ m a b c d. simp (or_half, xor_half); low = λ m a b c d. simp (or_low, xor_low) })
    (record { half = λ m a b c d. or_half b d; low = λ m a b c d. or_low b d })
    (every_pair (λ a b c d. decode (bit_or (bit_xor (bit_xor a c) 1) (bit_or b d)) (bit_or b d) ≡ xnor_bit (decode a b) (decode c d))
    refl refl refl refl refl refl refl refl refl refl refl refl refl refl refl refl)
    n va ua vb ub

abbrev pub merge_unknown : ℕ → ℕ → ℕ → ℕ → ℕ
merge_unknown va ua vb ub = bit_or (bit_or ua ub) (bit_xor va vb)

pub merge-planes : (n va ua vb ub : ℕ) → bits_of_planes n (bit_or va (merge_unknown va ua vb ub)) (merge_unknown va ua vb ub) ≡ map2 merge_bit (bits_of_planes n va ua) (bits_of_planes n vb ub)
merge-planes n va ua vb ub =
    zip-planes merge_bit (λ m a b c d. bit_or a (merge_unknown a b c d)) (λ m a b c d. merge_unknown a b c d)
    (record { half = λ m a b c d. simp (or_half, xor_half); low = λ m a b c d. simp (or_low, xor_low) })
    (record { half = λ m a b c d. simp (or_half, xor_half); low = λ m a b c d. simp (or_low, xor_low) })
    (every_pair (λ a b c d. decode (bit_or a (merge_unknown a b c d)) (merge_unknown a b c d) ≡ merge_bit (decode a b) (decode c d))
    refl refl refl refl refl refl refl refl refl refl refl refl refl refl refl refl)
    n va ua vb ub

-- ---- matches: ones where two vectors differ

abbrev pub same_difference : ℕ → ℕ → ℕ → ℕ → ℕ
same_difference va ua vb ub = bit_or (bit_xor va vb) (bit_xor ua ub)

abbrev pub z_difference : ℕ → ℕ → ℕ → ℕ → ℕ
z_difference va ua vb ub = less_ones (same_difference va ua vb ub) (bit_or (less_ones ua va) (less_ones ub vb))

abbrev pub x_difference : ℕ → ℕ → ℕ → ℕ → ℕ
x_difference va ua vb ub = less_ones (bit_xor va vb) (bit_or ua ub)

pub same-planes : (n va ua vb ub : ℕ) → bits_of_planes n (bit_xor (2 ^ n - 1) (same_difference va ua vb ub)) 0 ≡ map2 same_bit (bits_of_planes n va ua) (bits_of_planes n vb ub)
same-planes n va ua vb ub =
    zip-planes same_bit (λ m a b c d. bit_xor m (same_difference a b c d)) (λ m a b c d. 0)
    (record { half = λ m a b c d. simp (or_half, xor_half); low = λ m a b c d. simp (or_low, xor_low) })
    (record { half = λ m a b c d. refl; low = λ m a b c d. refl })
    (every_pair (λ a b c d. decode (bit_xor 1 (same_difference a b c d)) 0 ≡ same_bit (decode a b) (decode c d))
    refl refl refl refl refl refl refl refl refl refl refl refl refl refl refl refl)
    n va ua vb ub

pub z-planes : (n va ua vb ub : ℕ) → bits_of_planes n (bit_xor (2 ^ n - 1) (z_difference va ua vb ub)) 0 ≡ map2 casez_bit (bits_of_planes n va ua) (bits_of_planes n vb ub)
z-planes n va ua vb ub =
    zip-planes casez_bit (λ m a b c d. bit_xor m (z_difference a b c d)) (λ m a b c d. 0)
    (record { half = λ m a b c d. simp (and_half, or_half, xor_half); low = λ m a b c d. simp (and_low, or_low, xor_low) })
    (record { half = λ m a b c d. refl; low = λ m a b c d. refl })
    (every_pair (λ a b c d. decode (bit_xor 1 (z_difference a b c d)) 0 ≡ casez_bit (decode a b) (decode c d))
    refl refl refl refl refl refl refl refl refl refl refl refl refl refl refl refl)
    n va ua vb ub

pub x-planes : (n va ua vb ub : ℕ) → bits_of_planes n (bit_xor (2 ^ n - 1) (x_difference va ua vb ub)) 0 ≡ map2 casex_bit (bits_of_planes n va ua) (bits_of_planes n vb ub)
x-planes n va ua vb ub =
    zip-planes casex_bit (λ m a b c d. bit_xor m (x_difference a b c d)) (λ m a b c d. 0)
    (record { half = λ m a b c d. simp (and_half, or_half, xor_half); low = λ m a b c d. simp (and_low, or_low, xor_low) })
    (record { half = λ m a b c d. refl; low = λ m a b c d. refl })
    (every_pair (λ a b c d. decode (bit_xor 1 (x_difference a b c d)) 0 ≡ casex_bit (decode a b) (decode c d))
    refl refl refl refl refl refl refl refl refl refl refl refl refl refl refl refl)
    n va ua vb ub
