-- The bits of the rows after a turn.
use Rattle.std.proofs.Common.{◌≡◌, ℕ, zero, suc, ◌+◌, ◌-◌, ◌*◌, ◌/◌, ◌%◌, ◌^◌, ◌<◌, ◌≤◌, Bool, true, ◌&&◌, ◌==◌, nat_lt, ◌≢◌, List, [], ◌∷◌, length, get_or, set, replicate, refl, ◌∙◌, sym, ap, subst, arith, ◌⊎◌, inl, inr}
use Rattle.std.proofs.Math.Nat.{div-add-mod', div-div-eq-div-mul, div-eq-sub-div, div-eq_of_lt}
use Rattle.std.proofs.lemmas.Nat.{pow-add, pow_pos, or_lt, and_le_r, le_or_l, le_or_r}
use Rattle.std.proofs.lemmas.Bool.{cases_lt, and_parts, eqb-true, ltb-true}
use Rattle.std.proofs.lemmas.List.{get_or-set_same, get_or-set_other, length-set}
use Rattle.std.proofs.lemmas.Nat.Bits.{bit_at-lt, bit_at-zero, bit_at_and, bit_at_or, bit_at_not, bit_at_cat_low, bit_at_cat_high}
use Rattle.std.specs.Prelude.{bit_and, bit_or}
use Rattle.std.specs.Int.{bit_at, bit_not, w64}
use Rattle.vs_plane.specs.Squares.{digit, row_before, column_before, IsMask, IsTurned, AreColumns}

bit_at_mod : (n w c : ℕ) → c < w → bit_at (n % 2 ^ w) c ≡ bit_at n c
bit_at_mod n w c h = sym (bit_at_cat_low (n / 2 ^ w) w (n % 2 ^ w) c h) ∙ ap (λ m. bit_at m c) (div-add-mod' n (2 ^ w))

plus_zero : (n : ℕ) → n + 0 ≡ n
plus_zero n = omega arith

bit_at_shl_low : (n s c : ℕ) → c < s → bit_at (n * 2 ^ s) c ≡ 0
bit_at_shl_low n s c h = ap (λ m. bit_at m c) (sym (plus_zero (n * 2 ^ s))) ∙ bit_at_cat_low n s 0 c h ∙ bit_at-zero c

bit_at_shl_high : (n s c : ℕ) → 0 < 2 ^ s → s ≤ c → bit_at (n * 2 ^ s) c ≡ bit_at n (c - s)
bit_at_shl_high n s c p h = ap (λ m. bit_at m c) (sym (plus_zero (n * 2 ^ s))) ∙ bit_at_cat_high n s 0 c p h

bit_at_shr : (n s c : ℕ) → bit_at (n / 2 ^ s) c ≡ bit_at n (s + c)
bit_at_shr n s c = ap (λ m. m % 2) (div-div-eq-div-mul n (2 ^ s) (2 ^ c) ∙ ap (λ m. n / m) (sym (pow-add 2 s c)))

-- ---- digits of columns

digit_below : (s c : ℕ) → c < s → digit s c ≡ 0
digit_below s c h = ap (λ n. n % 2) (div-eq_of_lt h)

digit_less : (s c : ℕ) → 0 < s → s ≤ c → digit s (c - s) ≡ 1 - digit s c
digit_less s c p h = let e : c / s ≡ (c - s) / s + 1 = div-eq-sub-div p h in omega (arith, e)

-- ---- the two rows that a turn makes of rows a and b

abbrev pub first : ℕ → ℕ → ℕ → ℕ → ℕ
first s m a b = bit_or (bit_and a m) (bit_and b m * 2 ^ s % 2 ^ 64)

abbrev pub second : ℕ → ℕ → ℕ → ℕ → ℕ
second s m a b = bit_or (bit_and (a / 2 ^ s) m) (bit_and b (bit_not w64 m))

masked_high : (s m b c : ℕ) → 0 < s → IsMask s m → c < 64 → digit s c ≡ 0 → bit_at (bit_and b m * 2 ^ s % 2 ^ 64) c ≡ 0
masked_high s m b c p mask h d = bit_at_mod (bit_and b m * 2 ^ s) 64 c h ∙ elim (cases_lt c s) [
  | inl below ↦ bit_at_shl_low (bit_and b m) s c below
  | inr above ↦
      let le : s ≤ c = omega arith in
      let e = bit_at_shl_high (bit_and b m) s c (pow_pos s) le in
      let bits = bit_at_and b m (c - s) in
      let mask_bit = mask.bits (c - s) (omega arith) in
      let other = digit_less s c p le in
      omega (arith, e, bits, mask_bit, other, d)
]

unmasked_high : (s m b c : ℕ) → 0 < s → IsMask s m → c < 64 → digit s c ≡ 1 → bit_at (bit_and b m * 2 ^ s % 2 ^ 64) c ≡ bit_at b (c - s)
unmasked_high s m b c p mask h d = bit_at_mod (bit_and b m * 2 ^ s) 64 c h ∙ elim (cases_lt c s) [
  | inl below ↦ absurd (let z = digit_below s c below in omega (arith, z, d))
  | inr above ↦
      let le : s ≤ c = omega arith in
      let e = bit_at_shl_high (bit_and b m) s c (pow_pos s) le in
      let bits = bit_at_and b m (c - s) in
      let mask_bit = mask.bits (c - s) (omega arith) in
      let other = digit_less s c p le in
      let small = bit_at-lt b (c - s) in
      omega (arith, e, bits, mask_bit, other, d, small)
]

first_own : (s m a b c : ℕ) → 0 < s → IsMask s m → c < 64 → digit s c ≡ 0 → bit_at (first s m a b) c ≡ bit_at a c
first_own s m a b c p mask h d =
    let both = bit_at_or (bit_and a m) (bit_and b m * 2 ^ s % 2 ^ 64) c in
    let bits = bit_at_and a m c in
    let mask_bit = mask.bits c h in
    let high = masked_high s m b c p mask h d in
    let small = bit_at-lt a c in
    omega (arith, both, bits, mask_bit, high, small, d)

first_other : (s m a b c : ℕ) → 0 < s → IsMask s m → c < 64 → digit s c ≡ 1 → bit_at (first s m a b) c ≡ bit_at b (c - s)
first_other s m a b c p mask h d =
    let both = bit_at_or (bit_and a m) (bit_and b m * 2 ^ s % 2 ^ 64) c in
    let bits = bit_at_and a m c in
    let mask_bit = mask.bits c h in
    let high = unmasked_high s m b c p mask h d in
    omega (arith, both, bits, mask_bit, high, d)

second_own : (s m a b c : ℕ) → m < 2 ^ 64 → IsMask s m → c < 64 → digit s c ≡ 1 → bit_at (second s m a b) c ≡ bit_at b c
second_own s m a b c fits mask h d =
    let both = bit_at_or (bit_and (a / 2 ^ s) m) (bit_and b (bit_not w64 m)) c in
    let left = bit_at_and (a / 2 ^ s) m c in
    let right = bit_at_and b (bit_not w64 m) c in
    let inverse = bit_at_not w64 m c fits h in
    let mask_bit = mask.bits c h in
    let small = bit_at-lt b c in
    omega (arith, both, left, right, inverse, mask_bit, small, d)

second_other : (s m a b c : ℕ) → m < 2 ^ 64 → IsMask s m → c < 64 → digit s c ≡ 0 → bit_at (second s m a b) c ≡ bit_at a (s + c)
second_other s m a b c fits mask h d =
    let both = bit_at_or (bit_and (a / 2 ^ s) m) (bit_and b (bit_not w64 m)) c in
    let left = bit_at_and (a / 2 ^ s) m c in
    let moved = bit_at_shr a s c in
    let right = bit_at_and b (bit_not w64 m) c in
    let inverse = bit_at_not w64 m c fits h in
    let mask_bit = mask.bits c h in
    let small = bit_at-lt (a / 2 ^ s) c in
    omega (arith, both, left, moved, right, inverse, mask_bit, small, d)

-- ---- both of them, as the definitions say it

digit_cases : (s c : ℕ) → (digit s c ≡ 0) ⊎ (digit s c ≡ 1)
digit_cases s c = elim (cases_lt (digit s c) 1) [ inl below ↦ inl (omega arith) | inr above ↦ inr (omega arith) ]

at : (rows : List ℕ) (r q c d : ℕ) → r ≡ q → c ≡ d → bit_at (get_or rows r 0) c ≡ bit_at (get_or rows q 0) d
at rows r q c d e f = ap (λ n. bit_at (get_or rows n 0) c) e ∙ ap (λ n. bit_at (get_or rows q 0) n) f

column_is : (s r c t u d : ℕ) → r % 2 ≡ t → digit s c ≡ u → d ≡ (c + t * s) - u * s → d ≡ column_before s r c
column_is s r c t u d e f h = h ∙ sym (ap (λ x. (c + x * s) - digit s c * s) e ∙ ap (λ y. (c + t * s) - y * s) f)

row_is : (s r c u d : ℕ) → digit s c ≡ u → d ≡ r / 2 + 32 * u → d ≡ row_before s r c
row_is s r c u d f h = h ∙ sym (ap (λ y. r / 2 + 32 * y) f)

pub first_row : (s m i c : ℕ) (rows : List ℕ) → 0 < s → IsMask s m → c < 64 → bit_at (first s m (get_or rows i 0) (get_or rows (i + 32) 0)) c ≡ bit_at (get_or rows (row_before s (2 * i) c) 0) (column_before s (2 * i) c)
first_row s m i c rows p mask h = elim (digit_cases s c) [
  | inl d ↦ first_own s m (get_or rows i 0) (get_or rows (i + 32) 0) c p mask h d ∙ at rows i (row_before s (2 * i) c) c (column_before s (2 * i) c) (row_is s (2 * i) c 0 i d (omega arith)) (column_is s (2 * i) c 0 0 c (omega arith) d (omega arith))
  | inr d ↦ first_other s m (get_or rows i 0) (get_or rows (i + 32) 0) c p mask h d ∙ at rows (i + 32) (row_before s (2 * i) c) (c - s) (column_before s (2 * i) c) (row_is s (2 * i) c 1 (i + 32) d (omega arith)) (column_is s (2 * i) c 0 1 (c - s) (omega arith) d (omega arith))
]

pub second_row : (s m i c : ℕ) (rows : List ℕ) → m < 2 ^ 64 → IsMask s m → c < 64 → bit_at (second s m (get_or rows i 0) (get_or rows (i + 32) 0)) c ≡ bit_at (get_or rows (row_before s (2 * i + 1) c) 0) (column_before s (2 * i + 1) c)
second_row s m i c rows fits mask h = elim (digit_cases s c) [
  | inl d ↦ second_other s m (get_or rows i 0) (get_or rows (i + 32) 0) c fits mask h d ∙ at rows i (row_before s (2 * i + 1) c) (s + c) (column_before s (2 * i + 1) c) (row_is s (2 * i + 1) c 0 i d (omega arith)) (column_is s (2 * i + 1) c 1 0 (s + c) (omega arith) d (omega arith))
  | inr d ↦ second_own s m (get_or rows i 0) (get_or rows (i + 32) 0) c fits mask h d ∙ at rows (i + 32) (row_before s (2 * i + 1) c) c (column_before s (2 * i + 1) c) (row_is s (2 * i + 1) c 1 (i + 32) d (omega arith)) (column_is s (2 * i + 1) c 1 1 c (omega arith) d (omega arith))
]

-- ---- the rows so far

abbrev pub AreTurned : ℕ → List ℕ → ℕ → List ℕ → Type 0
AreTurned s rows count turned = (r c : ℕ) → r < count → c < 64 → bit_at (get_or turned r 0) c ≡ bit_at (get_or rows (row_before s r c) 0) (column_before s r c)

pub two_more : (s m i : ℕ) (rows turned : List ℕ) → length turned ≡ 64 → i < 32 → m < 2 ^ 64 → 0 < s → IsMask s m → AreTurned s rows (2 * i) turned
    → AreTurned s rows (2 * (i + 1)) (set (set turned (2 * i) (first s m (get_or rows i 0) (get_or rows (i + 32) 0))) (2 * i + 1) (second s m (get_or rows i 0) (get_or rows (i + 32) 0)))
two_more s m i rows turned long below fits p mask before r c hr hc =
    let a = first s m (get_or rows i 0) (get_or rows (i + 32) 0) in
    let b = second s m (get_or rows i 0) (get_or rows (i + 32) 0) in
    let one_set = set turned (2 * i) a in
    elim (cases_lt r (2 * i)) [
      | inl earlier ↦
          let ne1 : r ≢ 2 * i + 1 = omega arith in
          let ne0 : r ≢ 2 * i = omega arith in
          ap (λ n. bit_at n c) (get_or-set_other one_set (2 * i + 1) r b 0 ne1 ∙ get_or-set_other turned (2 * i) r a 0 ne0) ∙ before r c earlier hc
      | inr later ↦ elim (cases_lt r (2 * i + 1)) [
        | inl even ↦
            let e : r ≡ 2 * i = omega arith in
            let ne1 : 2 * i ≢ 2 * i + 1 = omega arith in
            let within : 2 * i < length turned = omega arith in
            subst (λ n. bit_at (get_or (set one_set (2 * i + 1) b) n 0) c ≡ bit_at (get_or rows (row_before s n c) 0) (column_before s n c)) (sym e)
            (ap (λ n. bit_at n c) (get_or-set_other one_set (2 * i + 1) (2 * i) b 0 ne1 ∙ get_or-set_same turned (2 * i) a 0 within) ∙ first_row s m i c rows p mask hc)
        | inr odd ↦
            let e : r ≡ 2 * i + 1 = omega arith in
            let within : 2 * i + 1 < length one_set = omega (arith, length-set turned (2 * i) a) in
            subst (λ n. bit_at (get_or (set one_set (2 * i + 1) b) n 0) c ≡ bit_at (get_or rows (row_before s n c) 0) (column_before s n c)) (sym e)
            (ap (λ n. bit_at n c) (get_or-set_same one_set (2 * i + 1) b 0 within) ∙ second_row s m i c rows fits mask hc)
      ]
    ]

-- ---- each row fits into a word

set_fits : (xs : List ℕ) (n v r : ℕ) → get_or xs r 0 < 2 ^ 64 → v < 2 ^ 64 → get_or (set xs n v) r 0 < 2 ^ 64
set_fits [] n v r h l = h
set_fits (x ∷ xs) zero v zero h l = l
set_fits (x ∷ xs) zero v (suc r) h l = h
set_fits (x ∷ xs) (suc n) v zero h l = h
set_fits (x ∷ xs) (suc n) v (suc r) h l = set_fits xs n v r h l

pub two_fit : (xs : List ℕ) (n m v w r : ℕ) → get_or xs r 0 < 2 ^ 64 → v < 2 ^ 64 → w < 2 ^ 64 → get_or (set (set xs n v) m w) r 0 < 2 ^ 64
two_fit xs n m v w r h l k = set_fits (set xs n v) m w r (set_fits xs n v r h l) k

pub zeros_fit : (n r : ℕ) → get_or (replicate n 0) r 0 < 2 ^ 64
zeros_fit zero r = omega arith
zeros_fit (suc n) zero = omega arith
zeros_fit (suc n) (suc r) = zeros_fit n r

pub first_fits : (s m a b : ℕ) → m < 2 ^ 64 → first s m a b < 2 ^ 64
first_fits s m a b h = or_lt 64 (bit_and a m) (bit_and b m * 2 ^ s % 2 ^ 64) (omega (arith, h, and_le_r a m)) (omega arith)

pub second_fits : (s m a b : ℕ) → m < 2 ^ 64 → second s m a b < 2 ^ 64
second_fits s m a b h =
    let inverse : bit_not w64 m < 2 ^ 64 = omega arith in
    or_lt 64 (bit_and (a / 2 ^ s) m) (bit_and b (bit_not w64 m)) (omega (arith, h, and_le_r (a / 2 ^ s) m)) (omega (arith, inverse, and_le_r b (bit_not w64 m)))

-- ---- the six masks

abbrev all_below : (ℕ → Bool) → ℕ → Bool
all_below p zero = true
all_below p (suc n) = p n && all_below p n

all_below_at : (p : ℕ → Bool) (n k : ℕ) → all_below p n ≡ true → k < n → p k ≡ true
all_below_at p zero k h lt = absurd (omega arith)
all_below_at p (suc n) k h lt =
    let parts = and_parts (p n) (all_below p n) h in
    elim (cases_lt k n) [
      | inl below ↦ all_below_at p n k parts.1 below
      | inr top ↦
          let e : k ≡ n = omega arith in
          rw e parts.0
    ]

mask_from : (s m : ℕ) → all_below (λ c. bit_at m c == (1 - digit s c)) 64 ≡ true → IsMask s m
mask_from s m h = record { bits = λ c small. eqb-true _ _ (all_below_at (λ c. bit_at m c == (1 - digit s c)) 64 c h small) }

pub mask_32 : IsMask 32 4294967295
mask_32 = mask_from 32 4294967295 refl

pub mask_16 : IsMask 16 281470681808895
mask_16 = mask_from 16 281470681808895 refl

pub mask_8 : IsMask 8 71777214294589695
mask_8 = mask_from 8 71777214294589695 refl

pub mask_4 : IsMask 4 1085102592571150095
mask_4 = mask_from 4 1085102592571150095 refl

pub mask_2 : IsMask 2 3689348814741910323
mask_2 = mask_from 2 3689348814741910323 refl

pub mask_1 : IsMask 1 6148914691236517205
mask_1 = mask_from 1 6148914691236517205 refl

-- ---- turns one after the other

-- the last one comes first
abbrev pub Chain : List ℕ → List ℕ → List ℕ → Type 0
Chain [] before after = before ≡ after
Chain (s ∷ ss) before after = (middle : List ℕ) × IsTurned s middle after × Chain ss before middle

-- whether a bit comes from this row and column
abbrev comes_from : List ℕ → ℕ → ℕ → ℕ → ℕ → Bool
comes_from [] r c row column = (r == row) && (c == column)
comes_from (s ∷ ss) r c row column = nat_lt r 64 && (nat_lt c 64 && comes_from ss (row_before s r c) (column_before s r c) row column)

chained : (ss before after : List ℕ) (r c row column : ℕ) → Chain ss before after → comes_from ss r c row column ≡ true → bit_at (get_or after r 0) c ≡ bit_at (get_or before row 0) column
chained [] before after r c row column same h =
    let parts = and_parts (r == row) (c == column) h in
    ap (λ rows. bit_at (get_or rows r 0) c) (sym same) ∙ at before r row c column (eqb-true r row parts.0) (eqb-true c column parts.1)
chained (s ∷ ss) before after r c row column turned h =
    let outer = and_parts (nat_lt r 64) (nat_lt c 64 && comes_from ss (row_before s r c) (column_before s r c) row column) h in
    let inner = and_parts (nat_lt c 64) (comes_from ss (row_before s r c) (column_before s r c) row column) outer.1 in
    turned.1.bits r c (ltb-true r 64 outer.0) (ltb-true c 64 inner.0) ∙ chained ss before turned.0 (row_before s r c) (column_before s r c) row column turned.2 inner.1

abbrev pub shifts : List ℕ
shifts = 1 ∷ 2 ∷ 4 ∷ 8 ∷ 16 ∷ 32 ∷ []

each_comes : all_below (λ r. all_below (λ c. comes_from shifts r c c r) 64) 64 ≡ true
each_comes = refl

pub six_turns : (before after : List ℕ) → Chain shifts before after → AreColumns before after
six_turns before after chain = record { bits = λ r c hr hc. chained shifts before after r c c r chain (all_below_at (λ c. comes_from shifts r c c r) 64 c (all_below_at (λ r. all_below (λ c. comes_from shifts r c c r) 64) 64 r each_comes hr) hc) }

-- ---- rows of zeros

abbrev all_zero : ℕ → List ℕ
all_zero n = replicate n 0

zeros : (n r : ℕ) → get_or (all_zero n) r 0 ≡ 0
zeros zero r = refl
zeros (suc n) zero = refl
zeros (suc n) (suc r) = zeros n r

pub zero_columns : (rows : List ℕ) → ((r : ℕ) → r < 64 → get_or rows r 0 ≡ 0) → AreColumns rows (all_zero 64)
zero_columns rows none = record {
  bits = λ r c in_rows in_columns.
      ap (λ (x : ℕ). bit_at x c) (zeros 64 r) ∙ bit_at-zero c ∙ sym (ap (λ (x : ℕ). bit_at x r) (none c in_columns) ∙ bit_at-zero r);
}

-- a row more, and what all rows have
pub no_more : (rows : List ℕ) (n bits : ℕ) → ((r : ℕ) → r < n → get_or rows r 0 ≤ bits) → (r : ℕ) → r < n + 1 → get_or rows r 0 ≤ bit_or bits (get_or rows n 0)
no_more rows n bits so_far r h = elim (cases_lt r n) [
  | inl earlier ↦ omega (arith, so_far r earlier, le_or_l bits (get_or rows n 0))
  | inr here ↦ let e : r ≡ n = omega arith in rw e (le_or_r bits (get_or rows n 0))
]
