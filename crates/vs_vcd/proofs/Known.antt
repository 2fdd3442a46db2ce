-- Known values in shortest form.
use Rattle.std.proofs.Common.{◌≡◌, ℕ, zero, suc, ◌+◌, ◌-◌, ◌*◌, ◌/◌, ◌%◌, ◌^◌, ◌<◌, ◌≤◌, true, List, [], ◌∷◌, ◌++◌, reverse, refl, ◌∙◌, sym, ap, arith, inl, inr}
use Rattle.std.proofs.lemmas.Bool.{cases_lt}
use Rattle.std.specs.Int.Count.{count_leading_zeros}
use Rattle.std.proofs.lemmas.List.{reverse-append}
use Rattle.std.proofs.lemmas.Nat.{pow_pos, leading_top}
use Rattle.std.proofs.Math.Nat.{div-div-eq-div-mul, div-eq_of_lt, div-eq_of_lt-le, pow-le-pow_right}
use Rattle.vs_four.specs.declared.Bit4.{Bit4}
use Rattle.vs_four.specs.declared.Bit4.TheVariants.{Zero, One, X, Z}
use Rattle.vs_four.specs.Planes.{decode, bits_of_planes}
use Rattle.vs_vcd.specs.Values.{is_redundant, shortest}
use Rattle.vs_vcd.proofs.Digits.{double, over_one}

-- the digit at place m
abbrev top : ℕ → ℕ → Bit4
top m n = decode (n / 2 ^ m % 2) 0

top_digit : (m n : ℕ) → bits_of_planes (suc m) n 0 ≡ bits_of_planes m n 0 ++ top m n ∷ []
unfolding bits_of_planes
top_digit zero n = ap (λ k. decode (k % 2) 0 ∷ []) (sym (over_one n))
top_digit (suc m) n =
    ap (λ bs. decode (n % 2) 0 ∷ bs) (top_digit m (n / 2))
    ∙ ap (λ k. decode (n % 2) 0 ∷ (bits_of_planes m (n / 2) 0 ++ decode (k % 2) 0 ∷ [])) (div-div-eq-div-mul n 2 (2 ^ m) ∙ ap (λ k. n / k) (double m))

reversed : (m n : ℕ) → reverse (bits_of_planes (suc m) n 0) ≡ top m n ∷ reverse (bits_of_planes m n 0)
reversed m n = ap reverse (top_digit m n) ∙ reverse-append (bits_of_planes m n 0) (top m n ∷ [])

-- a leading 0 is left out
zero_over : (d : ℕ) → is_redundant Zero (decode d 0) ≡ true
zero_over zero = refl
zero_over (suc d) = refl

drops : (b : Bit4) (bs : List Bit4) → is_redundant Zero b ≡ true → shortest (Zero ∷ b ∷ bs) ≡ shortest (b ∷ bs)
drops b bs r = rw (r, shortest) refl

one_stays : (b : Bit4) (bs : List Bit4) → shortest (One ∷ b ∷ bs) ≡ One ∷ b ∷ bs
one_stays Zero bs = refl
one_stays One bs = refl
one_stays X bs = refl
one_stays Z bs = refl

is_zero : (m n : ℕ) → n < 2 ^ m → top m n ≡ Zero
is_zero m n h = ap (λ k. decode (k % 2) 0) (div-eq_of_lt h)

is_one : (m n : ℕ) → 2 ^ m ≤ n → n < 2 ^ suc m → top m n ≡ One
is_one m n low high =
    let d = double m in
    let from : 1 * 2 ^ m ≤ n = omega arith in
    let below : n < (1 + 1) * 2 ^ m = omega arith in
    let e : n / 2 ^ m ≡ 1 = div-eq_of_lt-le (2 ^ m) from below in
    ap (λ k. decode (k % 2) 0) e

single : (n : ℕ) → shortest (reverse (bits_of_planes 1 n 0)) ≡ reverse (bits_of_planes 1 n 0)
unfolding bits_of_planes
single n = refl

zero_plus : (k : ℕ) → 0 + k ≡ k
zero_plus k = omega arith

suc_plus : (k j : ℕ) → suc k + j ≡ suc (k + j)
suc_plus k j = omega arith

whole : (count n : ℕ) → 0 < count → n < 2 ^ count → (1 < count → 2 ^ count ≤ 2 * n) → shortest (reverse (bits_of_planes count n 0)) ≡ reverse (bits_of_planes count n 0)
whole zero n some fits least = absurd (omega arith)
whole (suc zero) n some fits least = single n
whole (suc (suc m)) n some fits least =
    let d = double (suc m) in
    let l = least (omega arith) in
    let low : 2 ^ suc m ≤ n = omega (arith, d, l) in
    let e : reverse (bits_of_planes (suc (suc m)) n 0) ≡ One ∷ top m n ∷ reverse (bits_of_planes m n 0) =
    reversed (suc m) n ∙ ap (λ b. b ∷ reverse (bits_of_planes (suc m) n 0)) (is_one (suc m) n low fits) ∙ ap (λ bs. One ∷ bs) (reversed m n) in
    ap shortest e ∙ one_stays (top m n) (reverse (bits_of_planes m n 0)) ∙ sym e

shown : (extra count n : ℕ) → 0 < count → n < 2 ^ count → (1 < count → 2 ^ count ≤ 2 * n) → shortest (reverse (bits_of_planes (extra + count) n 0)) ≡ reverse (bits_of_planes count n 0)
shown zero count n some fits least = ap (λ k. shortest (reverse (bits_of_planes k n 0))) (zero_plus count) ∙ whole count n some fits least
shown (suc extra) count n some fits least =
    let under = shown extra count n some fits least in
    let place : extra + count ≡ suc (extra + count - 1) = omega arith in
    let more : count ≤ extra + count = omega arith in
    let some_two : 0 < 2 = omega arith in
    let p : 2 ^ count ≤ 2 ^ (extra + count) = pow-le-pow_right some_two more in
    let below : n < 2 ^ (extra + count) = omega (arith, p) in
    let m = extra + count - 1 in
    let rest : reverse (bits_of_planes (extra + count) n 0) ≡ top (extra + count - 1) n ∷ reverse (bits_of_planes (extra + count - 1) n 0) =
    ap (λ k. reverse (bits_of_planes k n 0)) place ∙ reversed (extra + count - 1) n in
    let e : reverse (bits_of_planes (suc (extra + count)) n 0) ≡ Zero ∷ top (extra + count - 1) n ∷ reverse (bits_of_planes (extra + count - 1) n 0) =
    reversed (extra + count) n ∙ ap (λ b. b ∷ reverse (bits_of_planes (extra + count) n 0)) (is_zero (extra + count) n below) ∙ ap (λ bs. Zero ∷ bs) rest in
    ap (λ k. shortest (reverse (bits_of_planes k n 0))) (suc_plus extra count)
    ∙ ap shortest e
    ∙ drops (top (extra + count - 1) n) (reverse (bits_of_planes (extra + count - 1) n 0)) (zero_over (n / 2 ^ (extra + count - 1) % 2))
    ∙ sym (ap shortest rest)
    ∙ under

-- a number below 2 ^ len has at most so many digits
count_within : (len count n : ℕ) → 0 < len → n < 2 ^ len → (1 < count → 2 ^ count ≤ 2 * n) → count ≤ len
count_within len count n some fits least = elim (cases_lt len count) [
  | inl over ↦
      let more : suc len ≤ count = omega arith in
      let some_two : 0 < 2 = omega arith in
      let p : 2 ^ suc len ≤ 2 ^ count = pow-le-pow_right some_two more in
      let l = least (omega arith) in
      let d = double len in
      absurd (omega (arith, p, l, d))
  | inr within ↦ within
]

-- the shortest form of a known value of any length
pub known_shortest : (len count n : ℕ) → 0 < len → n < 2 ^ len → 0 < count → n < 2 ^ count → (1 < count → 2 ^ count ≤ 2 * n) → reverse (bits_of_planes count n 0) ≡ shortest (reverse (bits_of_planes len n 0))
known_shortest len count n long below some fits least =
    let within = count_within len count n long below least in
    let e : len ≡ len - count + count = omega arith in
    sym (ap (λ k. shortest (reverse (bits_of_planes k n 0))) e ∙ shown (len - count) count n some fits least)

-- ---- how many digits a number has, by its leading zeros in a word

two_at_least : (j : ℕ) → 0 < j → 2 ≤ 2 ^ j
two_at_least zero h = absurd (omega arith)
two_at_least (suc j) h = let d = double j in let p = pow_pos j in omega (arith, d, p)

pub count_some : (a : ℕ) → 0 < a → a < 2 ^ 64 → 0 < 64 - count_leading_zeros 64 a
count_some a p h = let t = leading_top 64 a p h in omega (arith, t.1)

count_is : (k j m : ℕ) → k + suc j ≡ m → m - k ≡ suc j
count_is k j m h = omega arith

pub count_fits : (n a : ℕ) → 0 < a → n ≤ a → a < 2 ^ 64 → n < 2 ^ (64 - count_leading_zeros 64 a)
count_fits n a p le h =
    let t = leading_top 64 a p h in
    let e : 64 - count_leading_zeros 64 a ≡ suc t.0 = count_is (count_leading_zeros 64 a) t.0 64 t.1 in
    rw e (omega (arith, t.3))

pub count_least : (n a : ℕ) → 0 < a → a < 2 ^ 64 → (2 ≤ a → a ≤ n) → 1 < 64 - count_leading_zeros 64 a → 2 ^ (64 - count_leading_zeros 64 a) ≤ 2 * n
count_least n a p h same more =
    let t = leading_top 64 a p h in
    let e : 64 - count_leading_zeros 64 a ≡ suc t.0 = count_is (count_leading_zeros 64 a) t.0 64 t.1 in
    let q : 2 ≤ 2 ^ t.0 = two_at_least t.0 (omega (arith, e, more)) in
    let d = double t.0 in
    let le : a ≤ n = same (omega (arith, t.2, q)) in
    rw e (omega (arith, t.2, q, d, le))
