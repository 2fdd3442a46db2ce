-- The places of a part's bits go up one by one.
use Rattle.std.proofs.Common.{◌≡◌, ℕ, zero, suc, ◌<◌, Bool, true, false, if◌then◌else◌, nat_lt, ℤ, pos, negsuc, ◌+ℤ◌, ◌-ℤ◌, Option, Some, None, List, [], ◌∷◌, length, map, get_or, refl, sym, ap, ap₂, ◌∙◌, arith}
use Rattle.std.specs.Prelude.{replicate}
use Rattle.std.proofs.lemmas.Bool.Decides.{nat_tests}
use Rattle.std.proofs.Math.IntN.{suc_ℤ, +ℤ_one}
use Rattle.std.proofs.lemmas.Int.{ints}
use Rattle.std.proofs.lemmas.List.{length-map}
use Rattle.std.proofs.lemmas.Bool.{cond-true, cond-false, le-ltb}
use Rattle.vs_four.specs.declared.Range.{Range}
use Rattle.vs_four.specs.Selects.{is_descending, range_length, below, place_of, Part, least_index, greatest_index, indices_up, indices_down, indices}

-- ---- places one after the other

abbrev pub places : ℕ → ℤ → ℕ → List (Option ℕ)
places L i zero = []
places L i (suc w) = below L i ∷ places L (suc_ℤ i) w

pub places_up : (L : ℕ) (i : ℤ) (w : ℕ) → map (below L) (indices_up i w) ≡ places L i w
places_up L i zero = refl
places_up L i (suc w) = ap (λ xs. below L i ∷ xs) (places_up L (i +ℤ pos 1) w ∙ ap (λ j. places L j w) (+ℤ_one i))

place_of-descending : (r : Range) (i : ℤ) → is_descending r ≡ true → place_of r i ≡ below (range_length r) (i -ℤ pos r.right)
place_of-descending r i e = ap (below (range_length r)) (cond-true (is_descending r) _ _ e)

place_of-ascending : (r : Range) (i : ℤ) → is_descending r ≡ false → place_of r i ≡ below (range_length r) (pos r.right -ℤ i)
place_of-ascending r i e = ap (below (range_length r)) (cond-false (is_descending r) _ _ e)

step_up : (i : ℤ) (n : ℕ) → (i +ℤ pos 1) -ℤ pos n ≡ suc_ℤ (i -ℤ pos n)
step_up i n = let e : (i +ℤ pos 1) -ℤ pos n ≡ (i -ℤ pos n) +ℤ pos 1 = omega (arith, ints) in e ∙ +ℤ_one (i -ℤ pos n)

step_down : (i : ℤ) (n : ℕ) → pos n -ℤ (i -ℤ pos 1) ≡ suc_ℤ (pos n -ℤ i)
step_down i n = let e : pos n -ℤ (i -ℤ pos 1) ≡ (pos n -ℤ i) +ℤ pos 1 = omega (arith, ints) in e ∙ +ℤ_one (pos n -ℤ i)

places-descending : (r : Range) (i : ℤ) (w : ℕ) → is_descending r ≡ true → map (place_of r) (indices_up i w) ≡ places (range_length r) (i -ℤ pos r.right) w
places-descending r i zero e = refl
places-descending r i (suc w) e =
    ap₂ ◌∷◌ (place_of-descending r i e) (places-descending r (i +ℤ pos 1) w e ∙ ap (λ j. places (range_length r) j w) (step_up i r.right))

places-ascending : (r : Range) (i : ℤ) (w : ℕ) → is_descending r ≡ false → map (place_of r) (indices_down i w) ≡ places (range_length r) (pos r.right -ℤ i) w
places-ascending r i zero e = refl
places-ascending r i (suc w) e =
    ap₂ ◌∷◌ (place_of-ascending r i e) (places-ascending r (i -ℤ pos 1) w e ∙ ap (λ j. places (range_length r) j w) (step_down i r.right))

-- the places of a part go up from that of its least significant bit
pub places_of_part : (p : Part) (b lowest start : ℤ)
    → lowest ≡ (if is_descending p.range then least_index p b else greatest_index p b)
    → start ≡ (if is_descending p.range then (lowest -ℤ pos p.range.right) else (pos p.range.right -ℤ lowest))
    → map (place_of p.range) (indices p b) ≡ map (below (range_length p.range)) (indices_up start p.width)
places_of_part p b lowest start low is = at (is_descending p.range) refl ∙ sym (places_up (range_length p.range) start p.width) where
  at : (d : Bool) → is_descending p.range ≡ d → map (place_of p.range) (indices p b) ≡ places (range_length p.range) start p.width
  at true e =
      let l : lowest ≡ least_index p b = low ∙ cond-true (is_descending p.range) _ _ e in
      let s : start ≡ lowest -ℤ pos p.range.right = is ∙ cond-true (is_descending p.range) _ _ e in
      ap (map (place_of p.range)) (cond-true (is_descending p.range) _ _ e)
      ∙ places-descending p.range (least_index p b) p.width e
      ∙ ap (λ j. places (range_length p.range) j p.width) (ap (λ j. j -ℤ pos p.range.right) (sym l) ∙ sym s)
  at false e =
      let l : lowest ≡ greatest_index p b = low ∙ cond-false (is_descending p.range) _ _ e in
      let s : start ≡ pos p.range.right -ℤ lowest = is ∙ cond-false (is_descending p.range) _ _ e in
      ap (map (place_of p.range)) (cond-false (is_descending p.range) _ _ e)
      ∙ places-ascending p.range (greatest_index p b) p.width e
      ∙ ap (λ j. places (range_length p.range) j p.width) (ap (λ j. pos p.range.right -ℤ j) (sym l) ∙ sym s)

-- as many indices as are asked for
pub length-indices_up : (i : ℤ) (n : ℕ) → length (indices_up i n) ≡ n
length-indices_up i zero = refl
length-indices_up i (suc n) = ap suc (length-indices_up (i +ℤ pos 1) n)

-- the place of bit k
pub place_at-up : (L : ℕ) (i : ℤ) (n k : ℕ) → k < n → get_or (map (below L) (indices_up i n)) k None ≡ below L (i +ℤ pos k)
place_at-up L i zero k h = absurd (omega arith)
place_at-up L i (suc n) zero h = ap (below L) (omega (arith, ints))
place_at-up L i (suc n) (suc k) h =
    let e : (i +ℤ pos 1) +ℤ pos k ≡ i +ℤ pos (suc k) = omega (arith, ints) in
    place_at-up L (i +ℤ pos 1) n k (omega arith) ∙ ap (below L) e

below_none : (i : ℤ) → below 0 i ≡ None
below_none (pos n) = cond-false (nat_lt n 0) _ _ (le-ltb n 0 (omega arith))
below_none (negsuc n) = refl

-- no place is below 0
pub no_places : (i : ℤ) (n : ℕ) → map (below 0) (indices_up i n) ≡ replicate n None
no_places i zero = refl
no_places i (suc n) = ap₂ ◌∷◌ (below_none i) (no_places (i +ℤ pos 1) n)

pub length-kept : (L : ℕ) (i : ℤ) (n : ℕ) → length (map (below L) (indices_up i n)) ≡ n
length-kept L i n = length-map (indices_up i n) (below L) ∙ length-indices_up i n

pub below_is : (L : ℕ) (i : ℤ) (n : ℕ) → below L i ≡ Some n → n < L
below_is L (negsuc m) n h = absurd (let z : ⊥ = cc in z)
below_is L (pos m) n h = at (nat_lt m L) refl h where
  at : (k : Bool) → nat_lt m L ≡ k → (if k then Some m else None) ≡ Some n → n < L
  at true e h = let same : m ≡ n = cc in let inside : m < L = grind (arith, nat_tests, e) in omega (arith, same, inside)
  at false e h = absurd (let z : ⊥ = cc in z)

-- a kept place is below the length of the range
pub kept_below : (L : ℕ) (i : ℤ) (w k n : ℕ) → get_or (map (below L) (indices_up i w)) k None ≡ Some n → n < L
kept_below L i zero k n h = absurd (let z : ⊥ = cc in z)
kept_below L i (suc w) zero n h = below_is L i n h
kept_below L i (suc w) (suc k) n h = kept_below L (i +ℤ pos 1) w k n h
