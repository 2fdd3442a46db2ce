-- The digits of an amount, and the powers that they stand for.
use Rattle.std.proofs.Common.{◌≡◌, ℕ, zero, suc, ◌+◌, ◌*◌, ◌/◌, ◌^◌, ◌<◌, ◌≤◌, Bool, true, false, if◌then◌else◌, [], ◌∷◌, length, get_or, take, drop, refl, ap, ◌∙◌, arith, add-one, inl, inr}
use Rattle.std.proofs.lemmas.Bool.{cases_lt, lt-ltb, le-ltb}
use Rattle.std.proofs.Math.Nat.{pow-suc, pow-le-pow_right}
use Rattle.std.specs.List.{list_any}
use Rattle.vs_four.specs.declared.Bit4.TheVariants.{Zero, One, X, Z}
use Rattle.vs_four.specs.Tables.{is_one}
use Rattle.vs_four.specs.Logic.{BitList}
use Rattle.vs_four.specs.Numbers.{digit, number, log_up}
use Rattle.vs_kern_select.specs.Costs.{moving_bits}

-- ---- digits

-- the digits below place n, and those from there on
pub number-parts : (a : BitList) (n : ℕ) → number a ≡ number (take n a) + 2 ^ n * number (drop n a)
number-parts a zero = omega arith
number-parts [] (suc n) = omega arith
number-parts (b ∷ bs) (suc n) =
    let power : 2 ^ suc n * number (drop n bs) ≡ 2 ^ n * 2 * number (drop n bs) = ap (λ (p : ℕ). p * number (drop n bs)) (pow-suc 2 n) in
    omega (arith, number-parts bs n, power)

number-next : (a : BitList) (n : ℕ) → n < length a → number (take (suc n) a) ≡ number (take n a) + digit (get_or a n X) * 2 ^ n
number-next [] n h = absurd (let e : ⊥ = omega arith in e)
number-next (b ∷ bs) zero h = omega arith
number-next (b ∷ bs) (suc n) h =
    let power : digit (get_or bs n X) * 2 ^ suc n ≡ digit (get_or bs n X) * (2 ^ n * 2) = ap (λ (p : ℕ). digit (get_or bs n X) * p) (pow-suc 2 n) in
    omega (arith, number-next bs n (omega arith), power)

-- one more digit
pub number-more : (a : BitList) (n : ℕ) → n < length a → number (take (n + 1) a) ≡ number (take n a) + digit (get_or a n X) * 2 ^ n
number-more a n h = ap (λ (k : ℕ). number (take k a)) (add-one n) ∙ number-next a n h

-- a number with a 1 in it is at least 1, and one without is 0
pub some_one : (a : BitList) → list_any is_one a ≡ true → 1 ≤ number a
some_one [] h = cc
some_one (Zero ∷ bs) h = omega (arith, some_one bs h)
some_one (One ∷ bs) h = omega arith
some_one (X ∷ bs) h = omega (arith, some_one bs h)
some_one (Z ∷ bs) h = omega (arith, some_one bs h)

pub no_one : (a : BitList) → list_any is_one a ≡ false → number a ≡ 0
no_one [] h = refl
no_one (Zero ∷ bs) h = omega (arith, no_one bs h)
no_one (One ∷ bs) h = cc
no_one (X ∷ bs) h = omega (arith, no_one bs h)
no_one (Z ∷ bs) h = omega (arith, no_one bs h)

-- ---- the places that stand for less than a length

log_up-more : (most v : ℕ) → 1 < v → log_up (suc most) v ≡ suc (log_up most ((v + 1) / 2))
log_up-more most v h = ap (λ (b : Bool). if b then suc (log_up most ((v + 1) / 2)) else 0) (lt-ltb 1 v h)

log_up-none : (most v : ℕ) → v ≤ 1 → log_up (suc most) v ≡ 0
log_up-none most v h = ap (λ (b : Bool). if b then suc (log_up most ((v + 1) / 2)) else 0) (le-ltb 1 v h)

-- each place below the least that reaches v stands for less than v
pub log_up-below : (most v k : ℕ) → k < log_up most v → 2 ^ k < v
log_up-below zero v k h = absurd (let e : ⊥ = omega arith in e)
log_up-below (suc most) v zero h = elim (cases_lt 1 v) [
  | inl more ↦ more
  | inr small ↦ absurd (let e : ⊥ = omega (arith, h, log_up-none most v small) in e)
]
log_up-below (suc most) v (suc k) h = elim (cases_lt 1 v) [
  | inl more ↦ omega (arith, pow-suc 2 k, log_up-below most ((v + 1) / 2) k (omega (arith, h, log_up-more most v more)))
  | inr small ↦ absurd (let e : ⊥ = omega (arith, h, log_up-none most v small) in e)
]

log_up-reached : (most v : ℕ) → v ≤ 2 ^ most → v ≤ 2 ^ log_up most v
log_up-reached zero v h = h
log_up-reached (suc most) v h = elim (cases_lt 1 v) [
  | inl more ↦
      let half : (v + 1) / 2 ≤ 2 ^ log_up most ((v + 1) / 2) = log_up-reached most ((v + 1) / 2) (omega (arith, h, pow-suc 2 most)) in
      let power : 2 ^ log_up (suc most) v ≡ 2 ^ suc (log_up most ((v + 1) / 2)) = ap (λ (n : ℕ). 2 ^ n) (log_up-more most v more) in
      omega (arith, half, power, pow-suc 2 (log_up most ((v + 1) / 2)))
  | inr small ↦
      let power : 2 ^ log_up (suc most) v ≡ 2 ^ 0 = ap (λ (n : ℕ). 2 ^ n) (log_up-none most v small) in
      omega (arith, small, power)
]

below_power : (n : ℕ) → n < 2 ^ n
below_power zero = omega arith
below_power (suc n) = omega (arith, below_power n, pow-suc 2 n)

pub log_up-reaches : (v : ℕ) → v ≤ 2 ^ log_up v v
log_up-reaches v = log_up-reached v v (omega (arith, below_power v))

-- a further place stands for less too
pub log_up-next : (v k : ℕ) → k ≤ log_up v v → 2 ^ k < v → k + 1 ≤ log_up v v
log_up-next v k h below = elim (cases_lt k (log_up v v)) [
  | inl less ↦ omega (arith, less)
  | inr most ↦
      let same : log_up v v ≡ k = omega (arith, h, most) in
      let power : 2 ^ log_up v v ≡ 2 ^ k = ap (λ (n : ℕ). 2 ^ n) same in
      absurd (let e : ⊥ = omega (arith, below, power, log_up-reaches v) in e)
]

-- a place that stands for v or more is none of them
pub log_up-ends : (v k : ℕ) → k ≤ log_up v v → v ≤ 2 ^ k → log_up v v ≡ k
log_up-ends v k h reached = elim (cases_lt k (log_up v v)) [
  | inl less ↦ absurd (let e : ⊥ = omega (arith, reached, log_up-below v v k less) in e)
  | inr most ↦ omega (arith, h, most)
]

pub moving_below : (w m k : ℕ) → k < moving_bits w m → 2 ^ k < w
moving_below w m k h = log_up-below w w k (omega arith)

-- a power below a slice's length, as a word's shift of 1 gives it
pub place_fits : (w k : ℕ) → w ≤ 2 ^ 63 → 2 ^ k < w → k < 64
place_fits w k h below = elim (cases_lt k 64) [
  | inl less ↦ less
  | inr more ↦
      let power : 2 ^ 64 ≤ 2 ^ k = pow-le-pow_right (omega arith) {i = 64} {j = k} more in
      absurd (let e : ⊥ = omega (arith, h, below, power) in e)
]
