-- The first element that passes, and what is found of each.
use Rattle.std.proofs.Common.{◌≡◌, ℕ, ◌<◌, ◌≤◌, ◌+◌, Bool, true, false, List, [], ◌∷◌, ◌++◌, length, get_or, find, map, take, Option, None, Some, ap, ap₂, sym, ◌∙◌, arith}
use Rattle.std.specs.Prelude.{option_and_then}
use Rattle.std.proofs.lemmas.List.{take_more, take_all, map-append}
use Rattle.std.specs.List.{slice_get}
use Rattle.std.proofs.lemmas.List.Folds.{find_at}
use Rattle.std.proofs.lemmas.List.Sums.{position_or_len_is}
use Rattle.std.proofs.lemmas.Option.{slice_get-get_or, slice_get_past}

pub found_at : {X : Type 0} (p : X → Bool) (xs : List X) (n : ℕ) (d : X) → n < length xs → p (get_or xs n d) ≡ true → ((q : ℕ) → q < n → p (get_or xs q d) ≡ false)
    → find p xs ≡ Some (get_or xs n d)
found_at p xs n d within here none =
    find_at p xs ∙ ap (slice_get xs) (position_or_len_is p xs n d (omega (arith, within)) none (λ h. here)) ∙ slice_get-get_or xs n d within

pub found_nowhere : {X : Type 0} (p : X → Bool) (xs : List X) (d : X) → ((q : ℕ) → q < length xs → p (get_or xs q d) ≡ false) → find p xs ≡ None
found_nowhere p xs d none =
    find_at p xs ∙ ap (slice_get xs) (position_or_len_is p xs (length xs) d (omega arith) none (λ h. absurd (omega (arith, h)))) ∙ slice_get_past xs (length xs) (omega arith)

-- one element more
pub each_more : {X Y : Type 0} (f : X → Option Y) (xs : List X) (n : ℕ) (old new : List (Option Y)) (y : Option Y) → n < length xs → old ≡ map f (take n xs) → new ≡ old ++ y ∷ [] → y ≡ option_and_then f (slice_get xs n)
    → new ≡ map f (take (n + 1) xs)
each_more f [] n old new y within e h k = absurd (omega (arith, within))
each_more f (x ∷ xs) n old new y within e h k =
    let all = x ∷ xs in
    let here = get_or all n x in
    let is : y ≡ f here = k ∙ ap (option_and_then f) (slice_get-get_or all n x within) in
    h ∙ ap₂ (λ os o. os ++ o ∷ []) e is ∙ sym (ap (map f) (take_more all n x within) ∙ map-append f (take n all) (here ∷ []))

pub each_one : {X Y : Type 0} (f : X → Option Y) (xs : List X) (n : ℕ) (found : List (Option Y)) → length xs ≤ n → found ≡ map f (take n xs) → found ≡ map f xs
each_one f xs n found h e = e ∙ ap (map f) (take_all n xs h)
