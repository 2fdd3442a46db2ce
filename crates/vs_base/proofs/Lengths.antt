-- Lengths of vectors.
use Rattle.std.proofs.Common.{◌≡◌, ℕ, zero, suc, ◌+◌, ◌*◌, ◌≤◌, ◌-◌, Bool, true, false, List, [], ◌∷◌, None, if◌then◌else◌, length, replicate, map, refl, sym, ap, arith, ◌∙◌, length-append, ℤ, pos, ◌+ℤ◌, ◌-ℤ◌}
use Rattle.std.proofs.Math.ListN.{length-map, length-replicate}
use Rattle.std.proofs.Math.Nat.{mul-le-mul_right}
use Rattle.vs_four.specs.declared.Bit4.TheVariants.{X}
use Rattle.vs_four.specs.Logic.{BitList, map2, all_known}
use Rattle.vs_four.specs.Numbers.{integer}
use Rattle.vs_four.specs.Lengths.{extend, extend_with, repeat}
use Rattle.vs_four.specs.Tables.{merge_bit}
use Rattle.vs_four.specs.Selects.{Part, select, places, at_place, place_of, is_descending, least_index, greatest_index, indices, indices_up, indices_down}

pub length_extend : {A : Type 0} (fill : A) (w : ℕ) (xs : List A) → length xs ≤ w → length (extend_with fill w xs) ≡ w
length_extend fill w xs h = length-append xs (replicate (w - length xs) fill) ∙ ap (λ k. length xs + k) (length-replicate (w - length xs) fill) ∙ omega arith

pub extend_length : (w : ℕ) (g : Bool) (a : BitList) → length a ≤ w → length (extend w g a) ≡ w
extend_length w g a h = length_extend _ w a h

pub length_map2 : {A B C : Type 0} (f : A → B → C) (xs : List A) (ys : List B) → length xs ≡ length ys → length (map2 f xs ys) ≡ length xs
length_map2 f [] ys h = refl
length_map2 f (x ∷ xs) [] h = absurd (omega arith)
length_map2 f (x ∷ xs) (y ∷ ys) h = ap suc (length_map2 f xs ys (omega arith))

pub merge_length : (p q : BitList) → length p ≡ length q → length (map2 merge_bit p q) ≡ length p
merge_length p q h = length_map2 merge_bit p q h

-- a select has its width, whatever its index
length_up : (i : ℤ) (n : ℕ) → length (indices_up i n) ≡ n
length_up i zero = refl
length_up i (suc n) = ap suc (length_up (i +ℤ pos 1) n)

length_down : (i : ℤ) (n : ℕ) → length (indices_down i n) ≡ n
length_down i zero = refl
length_down i (suc n) = ap suc (length_down (i -ℤ pos 1) n)

either : {A : Type 0} (b : Bool) (xs ys : List A) (n : ℕ) → length xs ≡ n → length ys ≡ n → length (if b then xs else ys) ≡ n
either true xs ys n h k = h
either false xs ys n h k = k

length_indices : (p : Part) (b : ℤ) → length (indices p b) ≡ p.width
length_indices p b = either (is_descending p.range) (indices_up (least_index p b) p.width) (indices_down (greatest_index p b) p.width) p.width (length_up (least_index p b) p.width) (length_down (greatest_index p b) p.width)

length_places : (p : Part) (g : Bool) (index : BitList) → length (places p g index) ≡ p.width
length_places p g index =
    either (all_known index) (map (place_of p.range) (indices p (integer g index))) (replicate p.width None) p.width
    (length-map (indices p (integer g index)) (place_of p.range) ∙ length_indices p (integer g index))
    (length-replicate p.width None)

pub select_length : (p : Part) (g : Bool) (a index : BitList) → length (select p g a index) ≡ p.width
select_length p g a index = length-map (places p g index) (at_place X a) ∙ length_places p g index

pub length_repeat : {A : Type 0} (n : ℕ) (xs : List A) → length (repeat n xs) ≡ n * length xs
length_repeat zero xs = sym (omega arith)
length_repeat (suc n) xs = length-append xs (repeat n xs) ∙ ap (λ k. length xs + k) (length_repeat n xs) ∙ omega arith

pub repeat_length : (n : ℕ) (a : BitList) → length (repeat n a) ≡ n * length a
repeat_length n a = length_repeat n a

-- room for one more copy
pub more_copies : (made count : ℕ) (a : BitList) → suc made ≤ count → count * length a ≤ 64 → length (repeat made a) + length a ≤ 64
more_copies made count a h k =
    let m : suc made * length a ≤ count * length a = mul-le-mul_right (length a) h in
    let r = length_repeat made a in
    omega (arith, m, r, k)
