-- The places of a select's bits, by its base.
use Rattle.std.proofs.Common.{◌≡◌, ◌≢◌, ℕ, zero, suc, ◌+◌, ◌-◌, ◌<◌, ◌≤◌, Bool, true, false, ◌&&◌, ◌==◌, if◌then◌else◌, nat_lt, ℤ, pos, negsuc, ◌+ℤ◌, ◌-ℤ◌, int_eq, Option, Some, None, List, [], ◌∷◌, map, length, get_or, set, take, replicate, eq-eqb, refl, sym, ap, ◌∙◌, arith}
use Rattle.std.proofs.lemmas.Bool.{cond-true, cond-false, eqb-true, eqb-false, ltb-true, ltb-false}
use Rattle.std.proofs.lemmas.Bool.Decides.{Decides-int_eq}
use Rattle.std.proofs.lemmas.Int.{ints}
use Rattle.std.proofs.lemmas.List.{get_or-map, get_or-take, get_or_past, length-map, length-take-le, get_or-set_same, get_or-set_other, length-set}
use Rattle.vs_four.specs.declared.Bit4.{Bit4}
use Rattle.vs_four.specs.declared.Bit4.TheVariants.{X}
use Rattle.vs_four.specs.Logic.{BitList, all_known}
use Rattle.vs_four.specs.Numbers.{integer}
use Rattle.vs_four.specs.Selects.{is_descending, range_length, below, place_of, Part, least_index, greatest_index, indices_up, indices_down, indices, places, at_place, select, write_places}
use Rattle.vs_kern_select.specs.Matches.{base_by, is_number, is_place}
use Rattle.vs_kern_select.proofs.SelectNumbers.{same_int, other_int}

-- ---- the base of a place

pub base_down : (p : Part) (place bit : ℕ) → is_descending p.range ≡ true → p.up ≡ false
    → base_by p place bit ≡ (pos p.range.right +ℤ (pos place -ℤ pos bit)) +ℤ pos (p.width - 1)
base_down p place bit d u = cond-true (is_descending p.range) _ _ d ∙ cond-false p.up _ _ u

pub base_up : (p : Part) (place bit : ℕ) → is_descending p.range ≡ false → p.up ≡ true
    → base_by p place bit ≡ (pos p.range.right -ℤ (pos place -ℤ pos bit)) -ℤ pos (p.width - 1)
base_up p place bit d u = cond-false (is_descending p.range) _ _ d ∙ cond-true p.up _ _ u

-- ---- the indices of a part

index_up : (i : ℤ) (n j : ℕ) (d : ℤ) → j < n → get_or (indices_up i n) j d ≡ i +ℤ pos j
index_up i zero j d h = absurd (let e : ⊥ = omega arith in e)
index_up i (suc n) zero d h = omega (arith, ints)
index_up i (suc n) (suc j) d h = index_up (i +ℤ pos 1) n j d (omega arith) ∙ omega (arith, ints)

index_down : (i : ℤ) (n j : ℕ) (d : ℤ) → j < n → get_or (indices_down i n) j d ≡ i -ℤ pos j
index_down i zero j d h = absurd (let e : ⊥ = omega arith in e)
index_down i (suc n) zero d h = omega (arith, ints)
index_down i (suc n) (suc j) d h = index_down (i -ℤ pos 1) n j d (omega arith) ∙ omega (arith, ints)

length-up : (i : ℤ) (n : ℕ) → length (indices_up i n) ≡ n
length-up i zero = refl
length-up i (suc n) = ap suc (length-up (i +ℤ pos 1) n)

length-down : (i : ℤ) (n : ℕ) → length (indices_down i n) ≡ n
length-down i zero = refl
length-down i (suc n) = ap suc (length-down (i -ℤ pos 1) n)

-- the index of a bit
abbrev bit_index : Part → ℕ → ℤ → ℤ
bit_index p bit b = if is_descending p.range then (least_index p b +ℤ pos bit) else (greatest_index p b -ℤ pos bit)

index_is : (p : Part) (b : ℤ) (bit : ℕ) → bit < p.width → get_or (indices p b) bit (pos 0) ≡ bit_index p bit b
index_is p b bit h = at (is_descending p.range) where
  at : (d : Bool) → get_or (if d then indices_up (least_index p b) p.width else indices_down (greatest_index p b) p.width) bit (pos 0) ≡ (if d then (least_index p b +ℤ pos bit) else (greatest_index p b -ℤ pos bit))
  at true = index_up (least_index p b) p.width bit (pos 0) h
  at false = index_down (greatest_index p b) p.width bit (pos 0) h

length-indices : (p : Part) (b : ℤ) → length (indices p b) ≡ p.width
length-indices p b = at (is_descending p.range) where
  at : (d : Bool) → length (if d then indices_up (least_index p b) p.width else indices_down (greatest_index p b) p.width) ≡ p.width
  at true = length-up (least_index p b) p.width
  at false = length-down (greatest_index p b) p.width

-- ---- the places of a part

length-none : (n : ℕ) → length (replicate {A = Option ℕ} n None) ≡ n
length-none zero = refl
length-none (suc n) = ap suc (length-none n)

get_or-none : (n k : ℕ) → get_or (replicate {A = Option ℕ} n None) k None ≡ None
get_or-none zero k = refl
get_or-none (suc n) zero = refl
get_or-none (suc n) (suc k) = get_or-none n k

pub length-places : (p : Part) (signed : Bool) (index : BitList) → length (places p signed index) ≡ p.width
length-places p signed index = at (all_known index) where
  at : (k : Bool) → length (if k then map (place_of p.range) (indices p (integer signed index)) else replicate p.width None) ≡ p.width
  at true = length-map (indices p (integer signed index)) (place_of p.range) ∙ length-indices p (integer signed index)
  at false = length-none p.width

-- whether the number that begins here is at this place
place_is : (length place : ℕ) (z : ℤ) → place < length → is_place place (below length z) ≡ int_eq z (pos place)
place_is length place (pos n) h = at (nat_lt n length) refl where
  at : (d : Bool) → nat_lt n length ≡ d → is_place place (if d then Some n else None) ≡ int_eq (pos n) (pos place)
  at true e = same_int (n == place) (pos n) (pos place) (λ s. ap pos (eqb-true n place s)) (λ s. eq-eqb n place (omega (arith, ints)))
  at false e = let past : length ≤ n = ltb-false n length e in other_int (pos n) (pos place) (λ s. omega (arith, ints))
place_is length place (negsuc n) h = other_int (negsuc n) (pos place) (λ s. omega (arith, ints))

-- the test of a bit's place is a test of the base
abbrev index_by : Bool → Bool → ℕ → ℕ → ℤ → ℤ
index_by d u spread bit b = if d then ((if u then b else (b -ℤ pos spread)) +ℤ pos bit) else ((if u then (b +ℤ pos spread) else b) -ℤ pos bit)

abbrev start_by : Bool → Bool → ℕ → ℕ → ℕ → ℤ → ℤ
start_by d u spread right bit b = if d then (index_by d u spread bit b -ℤ pos right) else (pos right -ℤ index_by d u spread bit b)

abbrev base_for : Bool → Bool → ℕ → ℕ → ℕ → ℕ → ℤ
base_for d u spread right bit place = if d
    then (if u then (pos right +ℤ (pos place -ℤ pos bit)) else ((pos right +ℤ (pos place -ℤ pos bit)) +ℤ pos spread))
    else (if u then ((pos right -ℤ (pos place -ℤ pos bit)) -ℤ pos spread) else (pos right -ℤ (pos place -ℤ pos bit)))

same_tests_of : (v w x y : ℤ) → (v ≡ w → x ≡ y) → (x ≡ y → v ≡ w) → int_eq v w ≡ int_eq x y
same_tests_of v w x y to from = same_int (int_eq v w) x y (λ e. to ((Decides-int_eq v w).0 e)) (λ e. (Decides-int_eq v w).1 (from e))

base_is : (d u : Bool) (spread right bit place : ℕ) (b : ℤ) → int_eq (start_by d u spread right bit b) (pos place) ≡ int_eq b (base_for d u spread right bit place)
base_is true true spread right bit place b = same_tests_of (start_by true true spread right bit b) (pos place) b (base_for true true spread right bit place) (λ e. omega (arith, ints)) (λ e. omega (arith, ints))
base_is true false spread right bit place b = same_tests_of (start_by true false spread right bit b) (pos place) b (base_for true false spread right bit place) (λ e. omega (arith, ints)) (λ e. omega (arith, ints))
base_is false true spread right bit place b = same_tests_of (start_by false true spread right bit b) (pos place) b (base_for false true spread right bit place) (λ e. omega (arith, ints)) (λ e. omega (arith, ints))
base_is false false spread right bit place b = same_tests_of (start_by false false spread right bit b) (pos place) b (base_for false false spread right bit place) (λ e. omega (arith, ints)) (λ e. omega (arith, ints))

-- the lanes of a place are those of a number
pub number_is_place : (p : Part) (signed : Bool) (index : BitList) (bit place : ℕ) → bit < p.width → place < range_length p.range
    → is_number signed index (base_by p place bit) ≡ is_place place (get_or (places p signed index) bit None)
number_is_place p signed index bit place in_width in_range = at (all_known index) where
  at : (k : Bool) → (k && int_eq (integer signed index) (base_by p place bit)) ≡ is_place place (get_or (if k then map (place_of p.range) (indices p (integer signed index)) else replicate p.width None) bit None)
  at true =
      sym (ap (is_place place) (get_or-map (place_of p.range) (indices p (integer signed index)) bit (pos 0) None (omega (arith, length-indices p (integer signed index)))
      ∙ ap (place_of p.range) (index_is p (integer signed index) bit in_width))
      ∙ place_is (range_length p.range) place (start_by (is_descending p.range) p.up (p.width - 1) p.range.right bit (integer signed index)) in_range
      ∙ base_is (is_descending p.range) p.up (p.width - 1) p.range.right bit place (integer signed index))
  at false = sym (ap (is_place place) (get_or-none p.width bit))

-- ---- a select, place by place

pub length-select : (p : Part) (signed : Bool) (index a : BitList) → length (select p signed a index) ≡ p.width
length-select p signed index a = length-map (places p signed index) (at_place X a) ∙ length-places p signed index

pub select_at : (p : Part) (signed : Bool) (index a : BitList) (bit : ℕ) → bit < p.width
    → at_place X a (get_or (places p signed index) bit None) ≡ get_or (select p signed a index) bit X
select_at p signed index a bit h = sym (get_or-map (at_place X a) (places p signed index) bit None X (omega (arith, h, length-places p signed index)))

-- the bit at a place among the first n + 1, by that among the first n
pub place_next : (a : BitList) (n : ℕ) (o : Option ℕ) → n < length a
    → (if is_place n o then get_or a n X else at_place X (take n a) o) ≡ at_place X (take (n + 1) a) o
place_next a n None h = refl
place_next a n (Some m) h = at (m == n) refl where
  other : m ≢ n → get_or (take n a) m X ≡ get_or (take (n + 1) a) m X
  other apart = by (nat_lt m n) refl where
    by : (d : Bool) → nat_lt m n ≡ d → get_or (take n a) m X ≡ get_or (take (n + 1) a) m X
    by true e = let within : m < n = ltb-true m n e in get_or-take n a m X within ∙ sym (get_or-take (n + 1) a m X (omega arith))
    by false e =
        let past : n ≤ m = ltb-false m n e in
        get_or_past (take n a) m X (omega (arith, length-take-le n a (omega arith)))
        ∙ sym (get_or_past (take (n + 1) a) m X (omega (arith, length-take-le (n + 1) a (omega arith))))

  at : (d : Bool) → (m == n) ≡ d → (if d then get_or a n X else get_or (take n a) m X) ≡ get_or (take (n + 1) a) m X
  at true e =
      let same : m ≡ n = eqb-true m n e in
      ap (λ (k : ℕ). get_or a k X) (sym same) ∙ sym (get_or-take (n + 1) a m X (omega arith))
  at false e = other (eqb-false m n e)

-- ---- a write, place by place

-- a place's bit after a write of these bits to these places, one after the other
abbrev pub written_at : ℕ → Bit4 → List (Option ℕ) → BitList → Bit4
written_at q b [] vs = b
written_at q b (o ∷ ps) [] = b
written_at q b (o ∷ ps) (v ∷ vs) = written_at q (if is_place q o then v else b) ps vs

pub length-write : (a : BitList) (ps : List (Option ℕ)) (vs : BitList) → length (write_places a ps vs) ≡ length a
length-write a [] vs = refl
length-write a (o ∷ ps) [] = refl
length-write a (None ∷ ps) (v ∷ vs) = length-write a ps vs
length-write a (Some n ∷ ps) (v ∷ vs) = length-write (set a n v) ps vs ∙ length-set a n v

set_at : (a : BitList) (n q : ℕ) (v : Bit4) → q < length a → get_or (set a n v) q X ≡ (if n == q then v else get_or a q X)
set_at a n q v h = at (n == q) refl where
  at : (d : Bool) → (n == q) ≡ d → get_or (set a n v) q X ≡ (if d then v else get_or a q X)
  at true e =
      let same : n ≡ q = eqb-true n q e in
      ap (λ (k : ℕ). get_or (set a n v) k X) (sym same) ∙ get_or-set_same a n v X (omega arith)
  at false e = let apart : n ≢ q = eqb-false n q e in get_or-set_other a n q v X (λ s. apart (sym s))

pub write_at : (ps : List (Option ℕ)) (a vs : BitList) (q : ℕ) → q < length a
    → get_or (write_places a ps vs) q X ≡ written_at q (get_or a q X) ps vs
write_at [] a vs q h = refl
write_at (o ∷ ps) a [] q h = refl
write_at (None ∷ ps) a (v ∷ vs) q h = write_at ps a vs q h
write_at (Some n ∷ ps) a (v ∷ vs) q h =
    write_at ps (set a n v) vs q (omega (arith, h, length-set a n v))
    ∙ ap (λ (b : Bit4). written_at q b ps vs) (set_at a n q v h)
