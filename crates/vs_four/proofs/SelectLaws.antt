-- A select of what was written.
use Rattle.std.proofs.Common.{◌≡◌, ◌≢◌, ℕ, zero, suc, ◌+◌, ◌-◌, ◌<◌, ◌≤◌, Bool, true, false, if◌then◌else◌, List, [], ◌∷◌, length, map, get_or, set, ℤ, pos, negsuc, ◌+ℤ◌, ◌-ℤ◌, ◌≤ℤ◌, Option, Some, None, refl, ap, ap₂, ◌∙◌, arith, length-set, get_or-set_other, get_or-set_same, replicate, inl, inr}
use Rattle.std.proofs.lemmas.Bool.{lt-ltb, leb-true, leb-false, cases_Bool}
use Rattle.std.proofs.lemmas.Int.{ints}
use Rattle.vs_four.specs.declared.Bit4.{Bit4}
use Rattle.vs_four.specs.declared.Bit4.TheVariants.{X}
use Rattle.vs_four.specs.declared.Range.{Range}
use Rattle.vs_four.specs.Logic.{BitList}
use Rattle.vs_four.specs.Numbers.{integer}
use Rattle.vs_four.specs.Selects.{is_descending, range_length, below, place_of, Part, least_index, greatest_index, indices_up, indices_down, indices, places, at_place, write_places}
use Rattle.vs_four.specs.Laws.{IsWithin, WriteThenSelect}

-- this many places from n on
places_from : ℕ → ℕ → List (Option ℕ)
places_from n zero = []
places_from n (suc w) = Some n ∷ places_from (suc n) w

below-within : (len n : ℕ) (z : ℤ) → z ≡ pos n → n < len → below len z ≡ Some n
below-within len n z e h = rw (e, lt-ltb n len h) refl

places_up : (r : Range) → is_descending r ≡ true → (w n : ℕ) (i : ℤ) → i ≡ pos (r.right + n) → n + w ≤ range_length r → map (place_of r) (indices_up i w) ≡ places_from n w
unfolding places_from
places_up r d zero n i e h = refl
places_up r d (suc w) n i e h =
    let at : i -ℤ pos r.right ≡ pos n = omega (arith, ints, e) in
    let place : place_of r i ≡ Some n = ap (λ b. below (range_length r) (if b then (i -ℤ pos r.right) else (pos r.right -ℤ i))) d ∙ below-within (range_length r) n _ at (omega (arith, h)) in
    ap₂ ◌∷◌ place (places_up r d w (suc n) (i +ℤ pos 1) (omega (arith, ints, e)) (omega (arith, h)))

places_down : (r : Range) → is_descending r ≡ false → (w n : ℕ) (i : ℤ) → i +ℤ pos n ≡ pos r.right → n + w ≤ range_length r → map (place_of r) (indices_down i w) ≡ places_from n w
unfolding places_from
places_down r d zero n i e h = refl
places_down r d (suc w) n i e h =
    let at : pos r.right -ℤ i ≡ pos n = omega (arith, ints, e) in
    let place : place_of r i ≡ Some n = ap (λ b. below (range_length r) (if b then (i -ℤ pos r.right) else (pos r.right -ℤ i))) d ∙ below-within (range_length r) n _ at (omega (arith, h)) in
    ap₂ ◌∷◌ place (places_down r d w (suc n) (i -ℤ pos 1) (omega (arith, ints, e)) (omega (arith, h)))

-- ---- consecutive places

get_or-write_below : (w n : ℕ) (a vs : BitList) (k : ℕ) (d : Bit4) → k < n → get_or (write_places a (places_from n w) vs) k d ≡ get_or a k d
unfolding places_from
get_or-write_below zero n a vs k d h = refl
get_or-write_below (suc w) n a [] k d h = refl
get_or-write_below (suc w) n a (v ∷ vs) k d h =
    let other : k ≢ n = omega (arith, h) in
    get_or-write_below w (suc n) (set a n v) vs k d (omega (arith, h)) ∙ rw get_or-set_other refl

select-write : (w n : ℕ) (a vs : BitList) → length vs ≡ w → n + w ≤ length a → map (at_place X (write_places a (places_from n w) vs)) (places_from n w) ≡ vs
unfolding places_from
select-write zero n a [] e h = refl
select-write zero n a (v ∷ vs) e h = absurd (omega (arith, e))
select-write (suc w) n a [] e h = absurd (omega (arith, e))
select-write (suc w) n a (v ∷ vs) e h =
    let within : n < length a = omega (arith, h) in
    let first : get_or (write_places (set a n v) (places_from (suc n) w) vs) n X ≡ v = get_or-write_below w (suc n) (set a n v) vs n X (omega arith) ∙ rw get_or-set_same refl in
    ap₂ ◌∷◌ first (select-write w (suc n) (set a n v) vs (omega (arith, e)) (omega (arith, h, length-set a n v)))

-- ---- a part within its range

-- from the least index to the greatest
index_span : (up : Bool) (w : ℕ) (i : ℤ) → (if up then (i +ℤ pos (w - 1)) else i) ≡ (if up then i else (i -ℤ pos (w - 1))) +ℤ pos (w - 1)
index_span true w i = refl
index_span false w i = omega (arith, ints)

above_by : (m : ℕ) (z : ℤ) → pos m ≤ℤ z → (n : ℕ) × (z ≡ pos (m + n))
above_by m (pos k) h = (k - m, omega (arith, ints, h))
above_by m (negsuc k) h = absurd (omega (arith, ints, h))

below_by : (m : ℕ) (z : ℤ) → z ≤ℤ pos m → pos 0 ≤ℤ z → (n : ℕ) × (z +ℤ pos n ≡ pos m)
below_by m (pos k) h l = (m - k, omega (arith, ints, h))
below_by m (negsuc k) h l = absurd (omega (arith, ints, l))

-- its places follow one another
abbrev AreWithin : Part → ℤ → Type 0
AreWithin p i = (n : ℕ) × (map (place_of p.range) (indices p i) ≡ places_from n p.width) × (n + p.width ≤ range_length p.range)

within_descending : (p : Part) (i : ℤ) → 1 ≤ p.width → IsWithin p i → is_descending p.range ≡ true → AreWithin p i
within_descending p i some within d =
    let order : p.range.right ≤ p.range.left = leb-true p.range.right p.range.left d in
    let span : greatest_index p i ≡ least_index p i +ℤ pos (p.width - 1) = index_span p.up p.width i in
    let least : pos p.range.right ≤ℤ least_index p i = omega (arith, ints, within.least, order) in
    let greatest : greatest_index p i ≤ℤ pos p.range.left = omega (arith, ints, within.greatest, order) in
    let start = above_by p.range.right (least_index p i) least in
    let fits : start.0 + p.width ≤ suc (p.range.left - p.range.right) = omega (arith, ints, greatest, span, start.1, some, order) in
    let count : range_length p.range ≡ suc (p.range.left - p.range.right) = ap (λ b. if b then suc (p.range.left - p.range.right) else suc (p.range.right - p.range.left)) d in
    let way : indices p i ≡ indices_up (least_index p i) p.width = ap (λ b. if b then indices_up (least_index p i) p.width else indices_down (greatest_index p i) p.width) d in
    let inside : start.0 + p.width ≤ range_length p.range = omega (arith, fits, count) in
    (start.0, ap (map (place_of p.range)) way ∙ places_up p.range d p.width start.0 (least_index p i) start.1 inside, inside)

within_ascending : (p : Part) (i : ℤ) → 1 ≤ p.width → IsWithin p i → is_descending p.range ≡ false → AreWithin p i
within_ascending p i some within d =
    let order : p.range.left < p.range.right = leb-false p.range.right p.range.left d in
    let span : greatest_index p i ≡ least_index p i +ℤ pos (p.width - 1) = index_span p.up p.width i in
    let least : pos p.range.left ≤ℤ least_index p i = omega (arith, ints, within.least, order) in
    let greatest : greatest_index p i ≤ℤ pos p.range.right = omega (arith, ints, within.greatest, order) in
    let start = below_by p.range.right (greatest_index p i) greatest (omega (arith, ints, least, span)) in
    let fits : start.0 + p.width ≤ suc (p.range.right - p.range.left) = omega (arith, ints, least, span, start.1, some, order) in
    let count : range_length p.range ≡ suc (p.range.right - p.range.left) = ap (λ b. if b then suc (p.range.left - p.range.right) else suc (p.range.right - p.range.left)) d in
    let way : indices p i ≡ indices_down (greatest_index p i) p.width = ap (λ b. if b then indices_up (least_index p i) p.width else indices_down (greatest_index p i) p.width) d in
    let inside : start.0 + p.width ≤ range_length p.range = omega (arith, fits, count) in
    (start.0, ap (map (place_of p.range)) way ∙ places_down p.range d p.width start.0 (greatest_index p i) start.1 inside, inside)

places_within : (p : Part) (i : ℤ) → 1 ≤ p.width → IsWithin p i → AreWithin p i
places_within p i some within = elim (cases_Bool (is_descending p.range)) [ inl d ↦ within_descending p i some within d | inr d ↦ within_ascending p i some within d ]

pub write_then_select : WriteThenSelect
write_then_select p signed a index value known count same some within =
    let s = places_within p (integer signed index) some within in
    let at : places p signed index ≡ places_from s.0 p.width = ap (λ b. if b then map (place_of p.range) (indices p (integer signed index)) else replicate p.width None) known ∙ s.1 in
    rw at (select-write p.width s.0 a value same (omega (arith, s.2, count)))
