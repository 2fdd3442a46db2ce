-- Planes laid over planes.
use Rattle.std.proofs.Common.{◌≡◌, ℕ, zero, suc, ◌+◌, ◌-◌, ◌*◌, ◌/◌, ◌%◌, ◌^◌, ◌<◌, ◌≤◌, min, ℤ, pos, negsuc, ◌⊎◌, inl, inr, ◌∷◌, get_or, bit_and, bit_or, bit_xor, refl, sym, ap, ap₂, ◌∙◌, arith}
use Rattle.std.proofs.Math.IntN.{pred_ℤ}
use Rattle.std.proofs.Math.Nat.{pow-suc, pow-le-pow_right, mod-eq_of_lt, div-eq_of_lt, mul-mod_left}
use Rattle.std.proofs.lemmas.Nat.{shr-shr, shr_le, and_mask, and_mod, or_mod, xor_mod}
use Rattle.std.proofs.lemmas.Nat.Bits.{bit_at_ones, bit_at_ones_above, bit_at_above}
use Rattle.std.proofs.lemmas.Bool.{cases_lt}
use Rattle.std.proofs.lemmas.List.{get_or_past}
use Rattle.vs_four.specs.declared.Bit4.{Bit4}
use Rattle.vs_four.specs.Planes.{decode, bits_of_planes}
use Rattle.vs_four.specs.PlanesBack.{by_bit, length-planes}
use Rattle.vs_four.specs.Selects.{write_places}
use Rattle.vs_four.proofs.PlanesLemmas.{or_half, or_low}
use Rattle.vs_four.proofs.LogicLemmas.{less_ones, less_ones-low, less_ones-half, by_two}
use Rattle.vs_four.proofs.NumberLemmas.{mod_mod}
use Rattle.vs_four.proofs.ShiftLemmas.{whole_word}
use Rattle.vs_four.proofs.SelectLemmas.{places, written, write-cons, write-empty}

-- ---- a number moved up, or down

abbrev pub up_by : ℤ → ℕ → ℕ
up_by (pos n) x = x * 2 ^ n
up_by (negsuc n) x = x / 2 ^ suc n

pub up_by-half : (i : ℤ) (x : ℕ) → up_by i x / 2 ≡ up_by (pred_ℤ i) x
up_by-half (pos zero) x = omega arith
up_by-half (pos (suc n)) x =
    let e : x * 2 ^ suc n ≡ x * 2 ^ n * 2 = ap (λ (p : ℕ). x * p) (pow-suc 2 n) ∙ omega arith in
    omega (arith, e)
up_by-half (negsuc n) x = shr-shr x (suc n) 1 ∙ ap (λ (k : ℕ). x / 2 ^ k) (omega arith)

up_by-even : (n x : ℕ) → up_by (pos (suc n)) x % 2 ≡ 0
up_by-even n x =
    let e : x * 2 ^ suc n ≡ x * 2 ^ n * 2 = ap (λ (p : ℕ). x * p) (pow-suc 2 n) ∙ omega arith in
    ap (λ (k : ℕ). k % 2) e ∙ mul-mod_left (x * 2 ^ n) 2

-- ---- one plane laid over another, from place i on

abbrev pub laid : ℕ → ℤ → ℕ → ℕ → ℕ
laid w i under over = bit_or (less_ones under (up_by i (2 ^ w - 1))) (up_by i over)

laid-half : (w : ℕ) (i : ℤ) (x y : ℕ) → laid w i x y / 2 ≡ laid w (pred_ℤ i) (x / 2) y
laid-half w i x y =
    or_half _ _
    ∙ ap₂ bit_or (less_ones-half x (up_by i (2 ^ w - 1)) ∙ ap (less_ones (x / 2)) (up_by-half i (2 ^ w - 1))) (up_by-half i y)

laid-low : (w : ℕ) (i : ℤ) (x y : ℕ) → laid w i x y % 2 ≡ bit_or (less_ones (x % 2) (up_by i (2 ^ w - 1) % 2)) (up_by i y % 2)
laid-low w i x y = or_low _ _ ∙ ap (λ k. bit_or k (up_by i y % 2)) (less_ones-low x (up_by i (2 ^ w - 1)))

keep_low : (x : ℕ) → bit_or (less_ones (x % 2) 0) 0 ≡ x % 2
keep_low x = by_bit (λ d. bit_or (less_ones d 0) 0 ≡ d) refl refl x

take_over : (x y : ℕ) → bit_or (less_ones (x % 2) 1) (y % 2) ≡ y % 2
take_over x y = by_two (λ d e. bit_or (less_ones d 1) e ≡ e) refl refl refl refl x y

get_or-planes : (n v u k : ℕ) (d : Bit4) → k < n → get_or (bits_of_planes n v u) k d ≡ decode (v / 2 ^ k % 2) (u / 2 ^ k % 2)
unfolding bits_of_planes
get_or-planes zero v u k d h = absurd (omega (arith, h))
get_or-planes (suc n) v u zero d h = let p : v / 1 ≡ v = omega arith in let q : u / 1 ≡ u = omega arith in rw (p, q) refl
get_or-planes (suc n) v u (suc k) d h =
    let p : v / 2 ^ suc k ≡ v / 2 / 2 ^ k = sym (shr-shr v 1 k ∙ ap (λ (x : ℕ). v / 2 ^ x) (omega arith)) in
    let q : u / 2 ^ suc k ≡ u / 2 / 2 ^ k = sym (shr-shr u 1 k ∙ ap (λ (x : ℕ). u / 2 ^ x) (omega arith)) in
    rw (p, q) (get_or-planes n (v / 2) (u / 2) k d (omega (arith, h)))

-- one bit that bit k of a vector is laid over
laid_bit : (w k v u vv vu : ℕ) → vv < 2 ^ w → vu < 2 ^ w
    → decode (bit_or (less_ones (v % 2) ((2 ^ w - 1) / 2 ^ k % 2)) (vv / 2 ^ k % 2)) (bit_or (less_ones (u % 2) ((2 ^ w - 1) / 2 ^ k % 2)) (vu / 2 ^ k % 2))
    ≡ get_or (bits_of_planes w vv vu) k (decode (v % 2) (u % 2))
laid_bit w k v u vv vu p q = at (cases_lt k w) where
  at : (k < w) ⊎ (w ≤ k) → decode (bit_or (less_ones (v % 2) ((2 ^ w - 1) / 2 ^ k % 2)) (vv / 2 ^ k % 2)) (bit_or (less_ones (u % 2) ((2 ^ w - 1) / 2 ^ k % 2)) (vu / 2 ^ k % 2)) ≡ get_or (bits_of_planes w vv vu) k (decode (v % 2) (u % 2))
  at (inl h) =
      let one : (2 ^ w - 1) / 2 ^ k % 2 ≡ 1 = bit_at_ones w k h in
      rw one (ap₂ decode (take_over v (vv / 2 ^ k)) (take_over u (vu / 2 ^ k)) ∙ sym (get_or-planes w vv vu k (decode (v % 2) (u % 2)) h))
  at (inr h) =
      let none : (2 ^ w - 1) / 2 ^ k % 2 ≡ 0 = bit_at_ones_above w k h in
      let value : vv / 2 ^ k % 2 ≡ 0 = bit_at_above vv w k p h in
      let unknown : vu / 2 ^ k % 2 ≡ 0 = bit_at_above vu w k q h in
      rw (none, value, unknown) (ap₂ decode (keep_low v) (keep_low u) ∙ sym (get_or_past (bits_of_planes w vv vu) k (decode (v % 2) (u % 2)) (omega (arith, h, length-planes w vv vu))))

-- the lowest bit
laid_lowest : (w : ℕ) (i : ℤ) (v u vv vu : ℕ) → vv < 2 ^ w → vu < 2 ^ w
    → decode (laid w i v vv % 2) (laid w i u vu % 2) ≡ written (decode (v % 2) (u % 2)) (bits_of_planes w vv vu) i
laid_lowest w (pos zero) v u vv vu p q =
    let one : (x : ℕ) → x * 1 ≡ x / 1 = λ x. omega arith in
    ap₂ decode (laid-low w (pos zero) v vv) (laid-low w (pos zero) u vu)
    ∙ rw (one (2 ^ w - 1), one vv, one vu) (laid_bit w zero v u vv vu p q)
laid_lowest w (pos (suc n)) v u vv vu p q =
    ap₂ decode (laid-low w (pos (suc n)) v vv) (laid-low w (pos (suc n)) u vu)
    ∙ rw (up_by-even n (2 ^ w - 1), up_by-even n vv, up_by-even n vu) (ap₂ decode (keep_low v) (keep_low u))
laid_lowest w (negsuc n) v u vv vu p q =
    ap₂ decode (laid-low w (negsuc n) v vv) (laid-low w (negsuc n) u vu)
    ∙ laid_bit w (suc n) v u vv vu p q

pub laid-planes : (n w : ℕ) (i : ℤ) (v u vv vu : ℕ) → vv < 2 ^ w → vu < 2 ^ w
    → bits_of_planes n (laid w i v vv) (laid w i u vu) ≡ write_places (bits_of_planes n v u) (places n i w) (bits_of_planes w vv vu)
unfolding bits_of_planes
laid-planes zero w i v u vv vu p q = sym (write-empty (places zero i w) (bits_of_planes w vv vu))
laid-planes (suc n) w i v u vv vu p q =
    ap₂ ◌∷◌ (laid_lowest w i v u vv vu p q)
    (ap₂ (bits_of_planes n) (laid-half w i v vv) (laid-half w i u vu) ∙ laid-planes n w (pred_ℤ i) (v / 2) (u / 2) vv vu p q)
    ∙ sym (write-cons w n i (decode (v % 2) (u % 2)) (bits_of_planes n (v / 2) (u / 2)) (bits_of_planes w vv vu) (length-planes w vv vu))

-- ---- in words

pub moved_is : (word r : ℕ) (i : ℤ) → word < 2 ^ 64 → ((n : ℕ) → i ≡ pos n → r ≡ word * 2 ^ n % 2 ^ 64) → ((n : ℕ) → i ≡ negsuc n → r ≡ word / 2 ^ (n + 1)) → r ≡ up_by i word % 2 ^ 64
moved_is word r (pos n) h up down = up n refl
moved_is word r (negsuc n) h up down =
    down n refl
    ∙ ap (λ (k : ℕ). word / 2 ^ k) (omega arith)
    ∙ sym (mod-eq_of_lt (omega (arith, h, shr_le word (suc n))))

less_ones-mod : (a b n : ℕ) → less_ones a b % 2 ^ n ≡ less_ones (a % 2 ^ n) (b % 2 ^ n)
less_ones-mod a b n = xor_mod a (bit_and a b) n ∙ ap (bit_xor (a % 2 ^ n)) (and_mod a b n)

-- only the low n bits of what is laid over count
pub laid_words : (n w : ℕ) (i : ℤ) (x y taken over : ℕ) → n ≤ 64 → taken ≡ up_by i (2 ^ w - 1) % 2 ^ 64 → over ≡ up_by i y % 2 ^ 64
    → bit_and (bit_or (less_ones x taken) over) (2 ^ n - 1) ≡ laid w i x y % 2 ^ n
laid_words n w i x y taken over h t o =
    let low_taken : taken % 2 ^ n ≡ up_by i (2 ^ w - 1) % 2 ^ n = ap (λ (k : ℕ). k % 2 ^ n) t ∙ mod_mod n 64 (up_by i (2 ^ w - 1)) h in
    let low_over : over % 2 ^ n ≡ up_by i y % 2 ^ n = ap (λ (k : ℕ). k % 2 ^ n) o ∙ mod_mod n 64 (up_by i y) h in
    and_mask (bit_or (less_ones x taken) over) n
    ∙ or_mod (less_ones x taken) over n
    ∙ ap₂ bit_or
    (less_ones-mod x taken n ∙ ap (less_ones (x % 2 ^ n)) low_taken ∙ sym (less_ones-mod x (up_by i (2 ^ w - 1)) n))
    low_over
    ∙ sym (or_mod (less_ones x (up_by i (2 ^ w - 1))) (up_by i y) n)

-- beyond 64 places nothing is left
pub shr_most : (word m : ℕ) → word < 2 ^ 64 → word / 2 ^ min m 64 ≡ word / 2 ^ m
shr_most word m h =
    elim (cases_lt m 64) [
      | inl e ↦ ap (λ (k : ℕ). word / 2 ^ k) (omega arith)
      | inr e ↦
          let most : min m 64 ≡ 64 = omega arith in
          let more : 2 ^ 64 ≤ 2 ^ m = pow-le-pow_right (omega arith) {i = 64} {j = m} e in
          ap (λ (k : ℕ). word / 2 ^ k) most ∙ div-eq_of_lt h ∙ sym (div-eq_of_lt (omega (arith, h, more)))
    ]

pub shl_most : (word m : ℕ) → (word * 2 ^ min m 64) % 2 ^ 64 ≡ (word * 2 ^ m) % 2 ^ 64
shl_most word m =
    elim (cases_lt m 64) [
      | inl e ↦ ap (λ (k : ℕ). (word * 2 ^ k) % 2 ^ 64) (omega arith)
      | inr e ↦
          let most : min m 64 ≡ 64 = omega arith in
          ap (λ (k : ℕ). (word * 2 ^ k) % 2 ^ 64) most ∙ whole_word word 64 (omega arith) ∙ sym (whole_word word m e)
    ]
