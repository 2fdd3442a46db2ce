-- The places of a part, one after the other.
use Rattle.std.proofs.Common.{◌≡◌, ℕ, zero, suc, Bool, true, false, List, [], ◌∷◌, if◌then◌else◌, refl, ap, ◌∙◌, map, replicate, Option, None, arith, ℤ, pos, ◌+ℤ◌, ◌-ℤ◌}
use Rattle.std.proofs.lemmas.Int.{ints}
use Rattle.vs_four.specs.declared.Range.{Range}
use Rattle.vs_four.specs.Logic.{BitList, all_known}
use Rattle.vs_four.specs.Numbers.{integer}
use Rattle.vs_four.specs.Selects.{Part, is_descending, range_length, below, place_of, least_index, greatest_index, indices_up, indices_down, indices, places}

-- the place of a part's least significant bit
abbrev pub first_place : Part → ℤ → ℤ
first_place p b = if is_descending p.range then (least_index p b -ℤ pos p.range.right) else (pos p.range.right -ℤ greatest_index p b)

-- this many places from z on
abbrev pub places_from : ℕ → ℤ → ℕ → List (Option ℕ)
places_from length z zero = []
places_from length z (suc width) = below length z ∷ places_from length (z +ℤ pos 1) width

up : (r : Range) (n : ℕ) (i z : ℤ) → is_descending r ≡ true → z ≡ i -ℤ pos r.right → map (place_of r) (indices_up i n) ≡ places_from (range_length r) z n
up r zero i z d e = refl
up r (suc n) i z d e =
    let one : place_of r i ≡ below (range_length r) z = rw (d, e) refl in
    let rest = up r n (i +ℤ pos 1) (z +ℤ pos 1) d (omega (arith, ints)) in
    ap {B = List (Option ℕ)} (λ x. x ∷ map (place_of r) (indices_up (i +ℤ pos 1) n)) one ∙ ap {B = List (Option ℕ)} (λ xs. below (range_length r) z ∷ xs) rest

down : (r : Range) (n : ℕ) (i z : ℤ) → is_descending r ≡ false → z ≡ pos r.right -ℤ i → map (place_of r) (indices_down i n) ≡ places_from (range_length r) z n
down r zero i z d e = refl
down r (suc n) i z d e =
    let one : place_of r i ≡ below (range_length r) z = rw (d, e) refl in
    let rest = down r n (i -ℤ pos 1) (z +ℤ pos 1) d (omega (arith, ints)) in
    ap {B = List (Option ℕ)} (λ x. x ∷ map (place_of r) (indices_down (i -ℤ pos 1) n)) one ∙ ap {B = List (Option ℕ)} (λ xs. below (range_length r) z ∷ xs) rest

pub indices_are : (p : Part) (b : ℤ) → map (place_of p.range) (indices p b) ≡ places_from (range_length p.range) (first_place p b) p.width
indices_are p b = go (is_descending p.range) refl
  where
    go : (c : Bool) → is_descending p.range ≡ c
        → map (place_of p.range) (if c then indices_up (least_index p b) p.width else indices_down (greatest_index p b) p.width)
        ≡ places_from (range_length p.range) (if c then (least_index p b -ℤ pos p.range.right) else (pos p.range.right -ℤ greatest_index p b)) p.width
    go true d = up p.range p.width (least_index p b) (least_index p b -ℤ pos p.range.right) d refl
    go false d = down p.range p.width (greatest_index p b) (pos p.range.right -ℤ greatest_index p b) d refl

-- the places of a part go up from the first one
pub places_are : (p : Part) (g : Bool) (index : BitList) → places p g index ≡ (if all_known index then places_from (range_length p.range) (first_place p (integer g index)) p.width else replicate p.width None)
places_are p g index = ap {B = List (Option ℕ)} (λ xs. if all_known index then xs else replicate p.width None) (indices_are p (integer g index))
