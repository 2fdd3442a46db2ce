-- Extension, truncation and concatenation on planes.
use Rattle.std.proofs.Common.{◌≡◌, ℕ, zero, suc, ◌+◌, ◌-◌, ◌*◌, ◌%◌, ◌^◌, ◌<◌, ◌≤◌, List, [], ◌∷◌, ◌++◌, length, take, replicate, slice_get, Some, bit_and, bit_or, sym, ap, ap₂, ◌∙◌, arith}
use Rattle.std.proofs.lemmas.Nat.{pow_pos, pow-add, or_shifted, or_comm, and_mask, shl_whole, mul-le, mul-add-lt}
use Rattle.std.proofs.Math.Nat.{le_refl, mul-le-mul_left}
use Rattle.vs_four.specs.declared.Bit4.{Bit4}
use Rattle.vs_four.specs.Planes.{value_digit, unknown_digit, bits_of_planes}
use Rattle.vs_four.specs.Lengths.{last_or}
use Rattle.vs_four.proofs.PlaneParts.{append-planes, replicate-planes, take-planes, mod-planes}

-- the last element, by its place
pub last_or-slice_get : (d r : Bit4) (xs : List Bit4) (n : ℕ) → suc n ≡ length xs → slice_get xs n ≡ Some r → r ≡ last_or d xs
last_or-slice_get d r [] n h e = absurd (omega (arith, h))
last_or-slice_get d r (x ∷ []) zero h e = cc
last_or-slice_get d r (x ∷ []) (suc n) h e = absurd (omega (arith, h))
last_or-slice_get d r (x ∷ y ∷ ys) zero h e = absurd (omega (arith, h))
last_or-slice_get d r (x ∷ y ∷ ys) (suc n) h e = last_or-slice_get x r (y ∷ ys) n (omega (arith, h)) e

ones_between : (W N P m : ℕ) → P ≡ m + 1 → W ≡ P * N → 0 < N → (W - 1) - (N - 1) ≡ m * N
ones_between W N P m p e h =
    let f : W ≡ (m + 1) * N = e ∙ ap (λ k. k * N) p in
    omega (arith, f)

split_power : (n w : ℕ) → n ≤ w → 2 ^ w ≡ 2 ^ (w - n) * 2 ^ n
split_power n w h = ap (λ (k : ℕ). 2 ^ k) (omega arith) ∙ pow-add 2 (w - n) n

-- the ones from place n up to place w
pub ones_above : (n w : ℕ) → n ≤ w → (2 ^ w - 1) - (2 ^ n - 1) ≡ (2 ^ (w - n) - 1) * 2 ^ n
ones_above n w h = ones_between (2 ^ w) (2 ^ n) (2 ^ (w - n)) (2 ^ (w - n) - 1) (omega (arith, pow_pos (w - n))) (split_power n w h) (pow_pos n)

-- a word with this digit at each place from n up to w
abbrev pub filled : ℕ → ℕ → ℕ → ℕ → ℕ
filled n w v d = bit_or v (d * ((2 ^ w - 1) - (2 ^ n - 1)))

pub filled-is : (n w v d : ℕ) → n ≤ w → v < 2 ^ n → filled n w v d ≡ v + 2 ^ n * (d * (2 ^ (w - n) - 1))
filled-is n w v d h below =
    let m : ℕ = 2 ^ (w - n) - 1 in
    let e : d * ((2 ^ w - 1) - (2 ^ n - 1)) ≡ d * m * 2 ^ n = ap (λ k. d * k) (ones_above n w h) ∙ omega arith in
    ap (bit_or v) e ∙ or_comm v (d * m * 2 ^ n) ∙ or_shifted (d * m) n v below ∙ omega arith

pub filled-below : (n w v d : ℕ) → n ≤ w → v < 2 ^ n → d < 2 → filled n w v d < 2 ^ w
filled-below n w v d h below digit =
    let m : ℕ = 2 ^ (w - n) - 1 in
    let is : filled n w v d ≡ v + 2 ^ n * (d * m) = filled-is n w v d h below in
    let whole : 2 ^ w ≡ (m + 1) * 2 ^ n = split_power n w h ∙ ap (λ k. k * 2 ^ n) (omega (arith, pow_pos (w - n))) in
    let most : d * m ≤ 1 * m = mul-le d m 1 m (omega arith) (le_refl m) in
    let scaled : 2 ^ n * (d * m) ≤ 2 ^ n * (1 * m) = mul-le-mul_left (2 ^ n) most in
    omega (arith, is, whole, scaled, below)

pub extend-planes : (n w v u : ℕ) (fill : Bit4) → n ≤ w → v < 2 ^ n → u < 2 ^ n
    → bits_of_planes w (filled n w v (value_digit fill)) (filled n w u (unknown_digit fill)) ≡ bits_of_planes n v u ++ replicate (w - n) fill
extend-planes n w v u fill h below unknown =
    let e : w ≡ n + (w - n) = omega arith in
    ap₂ (bits_of_planes w) (filled-is n w v (value_digit fill) h below) (filled-is n w u (unknown_digit fill) h unknown)
    ∙ ap (λ k. bits_of_planes k (v + 2 ^ n * (value_digit fill * (2 ^ (w - n) - 1))) (u + 2 ^ n * (unknown_digit fill * (2 ^ (w - n) - 1)))) e
    ∙ append-planes n (w - n) v u (value_digit fill * (2 ^ (w - n) - 1)) (unknown_digit fill * (2 ^ (w - n) - 1)) below unknown
    ∙ ap (λ xs. bits_of_planes n v u ++ xs) (replicate-planes (w - n) fill)

pub cut-planes : (w n v u : ℕ) → w ≤ n → bits_of_planes w (bit_and v (2 ^ w - 1)) (bit_and u (2 ^ w - 1)) ≡ take w (bits_of_planes n v u)
cut-planes w n v u h =
    ap₂ (bits_of_planes w) (and_mask v w) (and_mask u w) ∙ mod-planes w v u ∙ sym (take-planes w n v u h)

-- a word above another
abbrev pub joined : ℕ → ℕ → ℕ → ℕ
joined low a b = bit_or (a * 2 ^ low % 2 ^ 64) b

pub joined-is : (high low a b : ℕ) → high + low ≤ 64 → a < 2 ^ high → b < 2 ^ low → joined low a b ≡ a * 2 ^ low + b
joined-is high low a b fits p q = ap (λ k. bit_or k b) (shl_whole a high low 64 p fits) ∙ or_shifted a low b q

pub joined-below : (high low a b : ℕ) → high + low ≤ 64 → a < 2 ^ high → b < 2 ^ low → joined low a b < 2 ^ (high + low)
joined-below high low a b fits p q =
    let is : joined low a b ≡ a * 2 ^ low + b = joined-is high low a b fits p q in
    omega (arith, is, mul-add-lt a (2 ^ low) b (2 ^ high) p q, pow-add 2 high low)

pub join-planes : (high low va ua vb ub : ℕ) → high + low ≤ 64 → va < 2 ^ high → ua < 2 ^ high → vb < 2 ^ low → ub < 2 ^ low
    → bits_of_planes (high + low) (joined low va vb) (joined low ua ub) ≡ bits_of_planes low vb ub ++ bits_of_planes high va ua
join-planes high low va ua vb ub fits p q r s =
    let v : joined low va vb ≡ vb + 2 ^ low * va = joined-is high low va vb fits p r ∙ omega arith in
    let u : joined low ua ub ≡ ub + 2 ^ low * ua = joined-is high low ua ub fits q s ∙ omega arith in
    let e : high + low ≡ low + high = omega arith in
    rw (v, u, e) (append-planes low high vb ub va ua r s)
