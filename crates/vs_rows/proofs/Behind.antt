-- What stands behind the first element that passes, and numbers below a bound.
use Rattle.std.proofs.Common.{◌≡◌, ◌⊎◌, ℕ, ◌+◌, ◌-◌, ◌≤◌, ◌<◌, Bool, true, false, List, [], length, take, drop, get_or, filter, Some, None, All, inl, inr, sym, ap, ◌∙◌, subst, arith}
use Rattle.std.specs.Prelude.{IfSome}
use Rattle.std.specs.List.{slice_get, after_first, range_with_len}
use Rattle.std.proofs.lemmas.List.{take_rest, drop_all}
use Rattle.std.proofs.lemmas.List.Elements.{All-filter, All-drop, All-get_or, All-from_get_or}
use Rattle.std.proofs.lemmas.List.FromFn.{length-range_with_len, get_or-range_with_len}
use Rattle.std.proofs.lemmas.List.Sums.{position_or_len_is}
use Rattle.std.proofs.lemmas.Option.{slice_get_cases}

pub behind_one : (p : ℕ → Bool) (xs : List ℕ) (n : ℕ) → n < length xs → ((k : ℕ) → k < n → p (get_or xs k 0) ≡ false) → p (get_or xs n 0) ≡ true
    → take (length xs - (n + 1)) (drop (n + 1) xs) ≡ after_first p xs
behind_one p xs n within none here = take_rest xs (n + 1) ∙ ap (λ k. drop (k + 1) xs) (sym (position_or_len_is p xs n 0 (omega (arith, within)) none (λ h. here)))

pub behind_none : (p : ℕ → Bool) (xs : List ℕ) (n : ℕ) → n ≤ length xs → length xs ≤ n → ((k : ℕ) → k < n → p (get_or xs k 0) ≡ false) → [] ≡ after_first p xs
behind_none p xs n within end none =
    sym (drop_all (n + 1) xs (omega (arith, end))) ∙ ap (λ k. drop (k + 1) xs) (sym (position_or_len_is p xs n 0 within none (λ h. absurd (omega (arith, h, end)))))

-- the elements of a list, one of which is looked at
at_place : (P : ℕ → Type 0) (xs : List ℕ) (n : ℕ) → All P xs → IfSome (slice_get xs n) P
at_place P xs n h = go (slice_get_cases xs n).1
  where
    go : ((x : ℕ) × (n < length xs) × (slice_get xs n ≡ Some x) × (get_or xs n x ≡ x)) ⊎ ((length xs ≤ n) × (slice_get xs n ≡ None)) → IfSome (slice_get xs n) P
    go (inl w) = subst (λ o. IfSome o P) (sym w.2) (subst P w.3 (All-get_or P xs n w.0 w.1 h))
    go (inr w) = subst (λ o. IfSome o P) (sym w.1) tt

all_numbers : (size : ℕ) → All (λ k. k < size) (range_with_len 0 size)
all_numbers size =
    All-from_get_or (λ k. k < size) (range_with_len 0 size) 0
    (λ i h.
    let long = length-range_with_len 0 size in
    let within : i < size = omega (arith, h, long) in
    let is = get_or-range_with_len 0 size i 0 within in
    omega (arith, is, within))

pub below_end : (p q : ℕ → Bool) (size n : ℕ) → IfSome (slice_get (after_first p (filter q (range_with_len 0 size))) n) (λ k. k < size)
below_end p q size n =
    at_place (λ k. k < size) _ n (All-drop (λ k. k < size) _ (filter q (range_with_len 0 size)) (All-filter q (λ k. k < size) (range_with_len 0 size) (all_numbers size)))
