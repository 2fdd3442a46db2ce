-- Places of parts, and writes bit by bit.
use Rattle.std.proofs.Common.{◌≡◌, ℕ, zero, suc, ◌<◌, ◌≤◌, Bool, true, false, if◌then◌else◌, nat_lt, ℤ, pos, negsuc, neg_ℤ, ◌+ℤ◌, ◌-ℤ◌, Option, Some, None, List, [], ◌∷◌, length, map, get_or, set, replicate, ◌⊎◌, inl, inr, refl, sym, ap, ap₂, ◌∙◌, arith}
use Rattle.std.proofs.Math.IntN.{suc_ℤ, pred_ℤ, +ℤ_one, neg_ℤ-suc_ℤ}
use Rattle.std.proofs.lemmas.Int.{ints}
use Rattle.std.proofs.lemmas.Bool.{cases_Bool, ltb-true, ltb-false, lt-ltb, le-ltb, cond-true, cond-false}
use Rattle.std.proofs.lemmas.List.{get_or_past}
use Rattle.vs_four.specs.declared.Bit4.{Bit4}
use Rattle.vs_four.specs.declared.Bit4.TheVariants.{X}
use Rattle.vs_four.specs.declared.Range.{Range}
use Rattle.vs_four.specs.Logic.{all_known}
use Rattle.vs_four.specs.Numbers.{integer, all_x}
use Rattle.vs_four.specs.Selects.{is_descending, range_length, below, place_of, Part, least_index, greatest_index, indices_up, indices_down, indices, at_place, select, write_places, write_select}

-- ---- places one after the other

abbrev pub places : ℕ → ℤ → ℕ → List (Option ℕ)
places L i zero = []
places L i (suc w) = below L i ∷ places L (suc_ℤ i) w

pub places_up : (L : ℕ) (i : ℤ) (w : ℕ) → map (below L) (indices_up i w) ≡ places L i w
places_up L i zero = refl
places_up L i (suc w) = ap (λ xs. below L i ∷ xs) (places_up L (i +ℤ pos 1) w ∙ ap (λ j. places L j w) (+ℤ_one i))

place_of-descending : (r : Range) (i : ℤ) → is_descending r ≡ true → place_of r i ≡ below (range_length r) (i -ℤ pos r.right)
place_of-descending r i e = ap (below (range_length r)) (cond-true (is_descending r) _ _ e)

place_of-ascending : (r : Range) (i : ℤ) → is_descending r ≡ false → place_of r i ≡ below (range_length r) (pos r.right -ℤ i)
place_of-ascending r i e = ap (below (range_length r)) (cond-false (is_descending r) _ _ e)

step_up : (i : ℤ) (n : ℕ) → (i +ℤ pos 1) -ℤ pos n ≡ suc_ℤ (i -ℤ pos n)
step_up i n = let e : (i +ℤ pos 1) -ℤ pos n ≡ (i -ℤ pos n) +ℤ pos 1 = omega (arith, ints) in e ∙ +ℤ_one (i -ℤ pos n)

step_down : (i : ℤ) (n : ℕ) → pos n -ℤ (i -ℤ pos 1) ≡ suc_ℤ (pos n -ℤ i)
step_down i n = let e : pos n -ℤ (i -ℤ pos 1) ≡ (pos n -ℤ i) +ℤ pos 1 = omega (arith, ints) in e ∙ +ℤ_one (pos n -ℤ i)

places-descending : (r : Range) (i : ℤ) (w : ℕ) → is_descending r ≡ true → map (place_of r) (indices_up i w) ≡ places (range_length r) (i -ℤ pos r.right) w
places-descending r i zero e = refl
places-descending r i (suc w) e =
    ap₂ ◌∷◌ (place_of-descending r i e) (places-descending r (i +ℤ pos 1) w e ∙ ap (λ j. places (range_length r) j w) (step_up i r.right))

places-ascending : (r : Range) (i : ℤ) (w : ℕ) → is_descending r ≡ false → map (place_of r) (indices_down i w) ≡ places (range_length r) (pos r.right -ℤ i) w
places-ascending r i zero e = refl
places-ascending r i (suc w) e =
    ap₂ ◌∷◌ (place_of-ascending r i e) (places-ascending r (i -ℤ pos 1) w e ∙ ap (λ j. places (range_length r) j w) (step_down i r.right))

-- the places of a part go up from that of its least significant bit
pub places_of_part : (p : Part) (b lowest start : ℤ)
    → lowest ≡ (if is_descending p.range then least_index p b else greatest_index p b)
    → start ≡ (if is_descending p.range then (lowest -ℤ pos p.range.right) else (pos p.range.right -ℤ lowest))
    → map (place_of p.range) (indices p b) ≡ map (below (range_length p.range)) (indices_up start p.width)
places_of_part p b lowest start low is = at (is_descending p.range) refl ∙ sym (places_up (range_length p.range) start p.width) where
  at : (d : Bool) → is_descending p.range ≡ d → map (place_of p.range) (indices p b) ≡ places (range_length p.range) start p.width
  at true e =
      let l : lowest ≡ least_index p b = low ∙ cond-true (is_descending p.range) _ _ e in
      let s : start ≡ lowest -ℤ pos p.range.right = is ∙ cond-true (is_descending p.range) _ _ e in
      ap (map (place_of p.range)) (cond-true (is_descending p.range) _ _ e)
      ∙ places-descending p.range (least_index p b) p.width e
      ∙ ap (λ j. places (range_length p.range) j p.width) (ap (λ j. j -ℤ pos p.range.right) (sym l) ∙ sym s)
  at false e =
      let l : lowest ≡ greatest_index p b = low ∙ cond-false (is_descending p.range) _ _ e in
      let s : start ≡ pos p.range.right -ℤ lowest = is ∙ cond-false (is_descending p.range) _ _ e in
      ap (map (place_of p.range)) (cond-false (is_descending p.range) _ _ e)
      ∙ places-ascending p.range (greatest_index p b) p.width e
      ∙ ap (λ j. places (range_length p.range) j p.width) (ap (λ j. pos p.range.right -ℤ j) (sym l) ∙ sym s)

-- ---- places in a list

below-inside : (L n : ℕ) → n < L → below L (pos n) ≡ Some n
below-inside L n h = cond-true (nat_lt n L) (Some n) None (lt-ltb n L h)

below-outside : (L n : ℕ) → L ≤ n → below L (pos n) ≡ None
below-outside L n h = cond-false (nat_lt n L) (Some n) None (le-ltb n L h)

-- the bit that a place has after a write from place i on
abbrev pub written : Bit4 → List Bit4 → ℤ → Bit4
written b vs (pos zero) = get_or vs 0 b
written b vs (pos (suc n)) = b
written b vs (negsuc n) = get_or vs (suc n) b

written-none : (b : Bit4) (i : ℤ) → written b [] i ≡ b
written-none b (pos zero) = refl
written-none b (pos (suc n)) = refl
written-none b (negsuc n) = refl

-- a write to a list, one bit after the other
pub write-cons : (w L : ℕ) (i : ℤ) (b : Bit4) (a vs : List Bit4) → length vs ≡ w
    → write_places (b ∷ a) (places (suc L) i w) vs ≡ written b vs i ∷ write_places a (places L (pred_ℤ i) w) vs
write-cons zero L i b a [] h = ap (λ c. c ∷ a) (sym (written-none b i))
write-cons zero L i b a (v ∷ vs) h = absurd (omega (arith, h))
write-cons (suc w) L i b a [] h = absurd (omega (arith, h))
write-cons (suc w) L (pos zero) b a (v ∷ vs) h =
    ap (λ p. write_places (b ∷ a) (p ∷ places (suc L) (pos (suc zero)) w) (v ∷ vs)) (below-inside (suc L) 0 (omega arith))
    ∙ write-cons w L (pos (suc zero)) v a vs (omega (arith, h))
write-cons (suc w) L (pos (suc n)) b a (v ∷ vs) h =
    elim (cases_Bool (nat_lt n L)) [
      | inl e ↦
          ap (λ p. write_places (b ∷ a) (p ∷ places (suc L) (pos (suc (suc n))) w) (v ∷ vs)) (below-inside (suc L) (suc n) (omega (arith, ltb-true n L e)))
          ∙ write-cons w L (pos (suc (suc n))) b (set a n v) vs (omega (arith, h))
          ∙ sym (ap (λ p. b ∷ write_places a (p ∷ places L (pos (suc n)) w) (v ∷ vs)) (below-inside L n (ltb-true n L e)))
      | inr e ↦
          ap (λ p. write_places (b ∷ a) (p ∷ places (suc L) (pos (suc (suc n))) w) (v ∷ vs)) (below-outside (suc L) (suc n) (omega (arith, ltb-false n L e)))
          ∙ write-cons w L (pos (suc (suc n))) b a vs (omega (arith, h))
          ∙ sym (ap (λ p. b ∷ write_places a (p ∷ places L (pos (suc n)) w) (v ∷ vs)) (below-outside L n (ltb-false n L e)))
    ]
write-cons (suc w) L (negsuc zero) b a (v ∷ vs) h = write-cons w L (pos zero) b a vs (omega (arith, h))
write-cons (suc w) L (negsuc (suc n)) b a (v ∷ vs) h = write-cons w L (negsuc n) b a vs (omega (arith, h))

pub write-empty : (ps : List (Option ℕ)) (vs : List Bit4) → write_places [] ps vs ≡ []
write-empty [] vs = refl
write-empty (p ∷ ps) [] = refl
write-empty (None ∷ ps) (v ∷ vs) = write-empty ps vs
write-empty (Some n ∷ ps) (v ∷ vs) = write-empty ps vs

-- by no place nothing is written
pub write-nowhere : (w : ℕ) (a vs : List Bit4) → write_places a (replicate w None) vs ≡ a
write-nowhere zero a vs = refl
write-nowhere (suc w) a [] = refl
write-nowhere (suc w) a (v ∷ vs) = write-nowhere w a vs

pub select-nowhere : (w : ℕ) (a : List Bit4) → map (at_place X a) (replicate w None) ≡ all_x w
select-nowhere zero a = refl
select-nowhere (suc w) a = ap (λ xs. X ∷ xs) (select-nowhere w a)

-- ---- a select is a write over all x, from the opposite place on

at_place-below : (d : Bit4) (a : List Bit4) (n : ℕ) → at_place d a (below (length a) (pos n)) ≡ get_or a n d
at_place-below d a n = at (cases_Bool (nat_lt n (length a))) where
  at : (nat_lt n (length a) ≡ true) ⊎ (nat_lt n (length a) ≡ false) → at_place d a (below (length a) (pos n)) ≡ get_or a n d
  at (inl e) = ap (at_place d a) (below-inside (length a) n (ltb-true n (length a) e))
  at (inr e) = ap (at_place d a) (below-outside (length a) n (ltb-false n (length a) e)) ∙ sym (get_or_past a n d (ltb-false n (length a) e))

written-opposite : (d : Bit4) (a : List Bit4) (i : ℤ) → written d a (neg_ℤ i) ≡ at_place d a (below (length a) i)
written-opposite d a (pos zero) = sym (at_place-below d a zero)
written-opposite d a (pos (suc n)) = sym (at_place-below d a (suc n))
written-opposite d a (negsuc n) = refl

pub select-places : (w : ℕ) (i : ℤ) (a : List Bit4) → map (at_place X a) (places (length a) i w) ≡ write_places (all_x w) (places w (neg_ℤ i) (length a)) a
select-places zero i a = sym (write-empty (places zero (neg_ℤ i) (length a)) a)
select-places (suc w) i a =
    ap₂ ◌∷◌ (sym (written-opposite X a i)) (select-places w (suc_ℤ i) a ∙ ap (λ j. write_places (all_x w) (places w j (length a)) a) (neg_ℤ-suc_ℤ i))
    ∙ sym (write-cons (length a) w (neg_ℤ i) X (all_x w) a refl)

-- ---- whole selects and writes

pub select-known : (p : Part) (signed : Bool) (a base : List Bit4) (start : ℤ) → all_known base ≡ true → range_length p.range ≡ length a
    → map (place_of p.range) (indices p (integer signed base)) ≡ map (below (range_length p.range)) (indices_up start p.width)
    → write_places (all_x p.width) (map (below p.width) (indices_up (neg_ℤ start) (length a))) a ≡ select p signed a base
select-known p signed a base start known of_range up =
    ap (λ ps. write_places (all_x p.width) ps a) (places_up p.width (neg_ℤ start) (length a))
    ∙ sym (select-places p.width start a)
    ∙ sym (ap (map (at_place X a))
    (cond-true (all_known base) _ _ known ∙ up ∙ ap (λ n. map (below n) (indices_up start p.width)) of_range ∙ places_up (length a) start p.width))

pub select-unknown : (p : Part) (signed : Bool) (a base : List Bit4) → all_known base ≡ false → all_x p.width ≡ select p signed a base
select-unknown p signed a base unknown = sym (ap (map (at_place X a)) (cond-false (all_known base) _ _ unknown) ∙ select-nowhere p.width a)

pub write-known : (p : Part) (signed : Bool) (a base value : List Bit4) (start : ℤ) → all_known base ≡ true → range_length p.range ≡ length a
    → map (place_of p.range) (indices p (integer signed base)) ≡ map (below (range_length p.range)) (indices_up start p.width)
    → write_places a (map (below (length a)) (indices_up start p.width)) value ≡ write_select p signed a base value
write-known p signed a base value start known of_range up =
    sym (ap (λ ps. write_places a ps value) (cond-true (all_known base) _ _ known ∙ up ∙ ap (λ n. map (below n) (indices_up start p.width)) of_range))

pub write-unknown : (p : Part) (signed : Bool) (a base value : List Bit4) → all_known base ≡ false → a ≡ write_select p signed a base value
write-unknown p signed a base value unknown =
    sym (ap (λ ps. write_places a ps value) (cond-false (all_known base) _ _ unknown) ∙ write-nowhere p.width a value)
