-- Steps of loops over lists.
use Rattle.std.proofs.Common.{◌≡◌, ℕ, zero, suc, ◌+◌, ◌-◌, ◌<◌, ◌≤◌, List, [], ◌∷◌, ◌++◌, length, drop, get_or, refl, sym, ap, ◌∙◌, arith, append_assoc, length-append}
use Rattle.std.specs.Prelude.{replicate}
use Rattle.std.proofs.lemmas.List.{drop_more}
use Rattle.vs_four.specs.Lengths.{repeat, last_or}
use Rattle.std.proofs.Common.{take, map, Some}
use Rattle.std.specs.Prelude.{slice_get}
use Rattle.std.proofs.Math.Seq.{take-append-add, take-length}
use Rattle.std.proofs.lemmas.List.{take-replicate, length-replicate, length-drop, length-map}
use Rattle.vs_four.specs.Logic.{map2}
use Rattle.vs_four.specs.Shifts.{move_up, move_down}

-- what is left counts down
left_step : (n i : ℕ) → i < n → n - i ≡ suc (n - (i + 1))
left_step n i h = omega arith

pub replicate_step : {A : Type 0} (n i : ℕ) (a : A) → i < n → replicate (n - i) a ≡ a ∷ replicate (n - (i + 1)) a
replicate_step n i a h = ap (λ k. replicate k a) (left_step n i h)

pub repeat_step : {A : Type 0} (n i : ℕ) (xs : List A) → i < n → repeat (n - i) xs ≡ xs ++ repeat (n - (i + 1)) xs
repeat_step n i xs h = ap (λ k. repeat k xs) (left_step n i h)

-- one more is moved from what is left to what is done
pub moved : {A : Type 0} (done piece left left' whole : List A) → done ++ left ≡ whole → left ≡ piece ++ left' → (done ++ piece) ++ left' ≡ whole
moved done piece left left' whole h e = rw append_assoc (rw (← e) h)

-- what is done is no longer than the whole
pub done_fits : {A : Type 0} (done left whole : List A) → done ++ left ≡ whole → length done + length left ≡ length whole
done_fits done left whole h = sym (length-append done left) ∙ ap length h

-- ---- pairs of elements

pub length-map2 : {A B C : Type 0} (f : A → B → C) (xs : List A) (ys : List B) → length xs ≡ length ys → length (map2 f xs ys) ≡ length xs
length-map2 f [] ys e = refl
length-map2 f (x ∷ xs) [] e = sym e
length-map2 f (x ∷ xs) (y ∷ ys) e = ap suc (length-map2 f xs ys (omega (arith, e)))

-- the list that pairs make still has room
pub pairs_fit : {A B C : Type 0} (f : A → B → C) (done : List C) (xs : List A) (ys : List B) (i most : ℕ)
    → done ++ map2 f (drop i xs) (drop i ys) ≡ map2 f xs ys → length xs ≡ length ys → i < length xs → length xs ≤ most → length done < most
pairs_fit f done xs ys i most h same inside few =
    let e = done_fits done _ _ h in
    let whole = length-map2 f xs ys same in
    let a = length-drop i xs in
    let b = length-drop i ys in
    let part = length-map2 f (drop i xs) (drop i ys) (omega (arith, a, b, same)) in
    omega (arith, e, whole, a, b, part, same)

pub map2_step : {A B C : Type 0} (f : A → B → C) (xs : List A) (ys : List B) (i : ℕ) (a : A) (b : B) → i < length xs → i < length ys
    → map2 f (drop i xs) (drop i ys) ≡ (f (get_or xs i a) (get_or ys i b) ∷ []) ++ map2 f (drop (i + 1) xs) (drop (i + 1) ys)
map2_step f xs ys i a b h k = rw (drop_more xs i a h, drop_more ys i b k)

-- ---- what is taken of two lists

take_to : {A : Type 0} (n : ℕ) (xs ys : List A) → length xs ≤ n → take n (xs ++ ys) ≡ xs ++ take (n - length xs) ys
take_to n xs ys h =
    let e : n ≡ length xs + (n - length xs) = omega arith in
    ap (λ k. take k (xs ++ ys)) e ∙ take-append-add xs ys (n - length xs)

take_whole : {A : Type 0} (xs : List A) (n : ℕ) → n ≡ length xs → take n xs ≡ xs
take_whole xs n e = ap (λ k. take k xs) e ∙ take-length xs

pub move_up-is : {A : Type 0} (fill : A) (n : ℕ) (xs : List A) → n ≤ length xs → move_up fill n xs ≡ replicate n fill ++ take (length xs - n) xs
move_up-is fill n xs h =
    let e = length-replicate n fill in
    take_to (length xs) (replicate n fill) xs (omega (arith, e)) ∙ ap (λ k. replicate n fill ++ take (length xs - k) xs) e

pub move_down-is : {A : Type 0} (fill : A) (n : ℕ) (xs : List A) → n ≤ length xs → move_down fill n xs ≡ drop n xs ++ replicate n fill
move_down-is fill n xs h =
    let e = length-drop n xs in
    let left : length xs - length (drop n xs) ≡ n = omega (arith, e) in
    take_to (length xs) (drop n xs) (replicate (length xs) fill) (omega (arith, e))
    ∙ ap (λ t. drop n xs ++ t) (ap (λ k. take k (replicate (length xs) fill)) left ∙ take-replicate n (length xs) fill h)

-- by what is taken, and filled up
pub moved_down_made : {A : Type 0} (fill : A) (n : ℕ) (xs none kept out : List A) → n ≤ length xs → none ≡ []
    → kept ≡ none ++ take (length xs - n) (drop n xs) → out ≡ kept ++ replicate n fill → out ≡ move_down fill n xs
moved_down_made fill n xs none kept out h e k o =
    let whole : take (length xs - n) (drop n xs) ≡ drop n xs = take_whole (drop n xs) (length xs - n) (omega (arith, length-drop n xs)) in
    o ∙ ap (λ t. t ++ replicate n fill) (k ∙ (rw e whole)) ∙ sym (move_down-is fill n xs h)

-- ---- the last element

pub last_or-at : {A : Type 0} (d e : A) (xs : List A) → 0 < length xs → get_or xs (length xs - 1) e ≡ last_or d xs
last_or-at d e [] h = absurd (omega arith)
last_or-at d e (x ∷ []) h = refl
last_or-at d e (x ∷ y ∷ xs) h =
    let k : length (x ∷ y ∷ xs) - 1 ≡ suc (length (y ∷ xs) - 1) = omega arith in
    ap (λ n. get_or (x ∷ y ∷ xs) n e) k ∙ last_or-at x e (y ∷ xs) (omega arith)

-- ---- one element after the other

pub inside : {A : Type 0} (xs : List A) (i : ℕ) (a : A) → slice_get xs i ≡ Some a → i < length xs
inside [] i a h = absurd (let z : ⊥ = cc in z)
inside (x ∷ xs) zero a h = omega arith
inside (x ∷ xs) (suc i) a h = omega (arith, inside xs i a h)

pub found : {A : Type 0} (xs : List A) (i : ℕ) (a : A) → slice_get xs i ≡ Some a → get_or xs i a ≡ a
found [] i a h = refl
found (x ∷ xs) zero a h = cc
found (x ∷ xs) (suc i) a h = found xs i a h

-- the list that a map makes still has room
pub maps_fit : {A C : Type 0} (f : A → C) (done : List C) (xs : List A) (i most : ℕ) → done ++ map f (drop i xs) ≡ map f xs → i < length xs → length xs ≤ most → length done < most
maps_fit f done xs i most h inside few =
    let e = done_fits done _ _ h in
    let whole = length-map xs f in
    let a = length-drop i xs in
    let part = length-map (drop i xs) f in
    omega (arith, e, whole, a, part)

pub map_step : {A C : Type 0} (f : A → C) (xs : List A) (i : ℕ) (a : A) → slice_get xs i ≡ Some a → map f (drop i xs) ≡ (f a ∷ []) ++ map f (drop (i + 1) xs)
map_step f xs i a h = rw (drop_more xs i a (inside xs i a h), found xs i a h)
