-- The first number of a range that passes.
use Rattle.std.proofs.Common.{◌≡◌, ℕ, ◌+◌, ◌-◌, ◌≤◌, ◌<◌, Bool, true, false, get_or, find, None, Some, refl, ap, ◌∙◌, arith}
use Rattle.std.specs.List.{slice_get, range_with_len}
use Rattle.std.proofs.lemmas.List.Folds.{find_at}
use Rattle.std.proofs.lemmas.List.Sums.{position_or_len_is}
use Rattle.std.proofs.lemmas.List.FromFn.{length-range_with_len, get_or-range_with_len}
use Rattle.std.proofs.lemmas.Option.{slice_get-get_or, slice_get_past}

item : (from n k j : ℕ) → k < n → from + k ≡ j → get_or (range_with_len from n) k 0 ≡ j
item from n k j h e = get_or-range_with_len from n k 0 h ∙ e

pub found_from : (p : ℕ → Bool) (from n at : ℕ) → from ≤ at → at < from + n → p at ≡ true → ((q : ℕ) → from ≤ q → q < at → p q ≡ false) → find p (range_with_len from n) ≡ Some at
found_from p from n at low high here none =
    let xs = range_with_len from n in
    let size = length-range_with_len from n in
    let k : at - from < n = omega (arith, low, high) in
    let is : get_or xs (at - from) 0 ≡ at = item from n (at - from) at k (omega (arith, low)) in
    find_at p xs
    ∙ ap (slice_get xs)
    (position_or_len_is p xs (at - from) 0 (omega (arith, size, k))
    (λ q h. ap p (item from n q (from + q) (omega (arith, h, k)) refl) ∙ none (from + q) (omega arith) (omega (arith, h, low)))
    (λ h. ap p is ∙ here))
    ∙ slice_get-get_or xs (at - from) 0 (omega (arith, size, k))
    ∙ ap Some is

pub found_nowhere : (p : ℕ → Bool) (from n : ℕ) → ((q : ℕ) → from ≤ q → q < from + n → p q ≡ false) → find p (range_with_len from n) ≡ None
found_nowhere p from n none =
    let xs = range_with_len from n in
    let size = length-range_with_len from n in
    find_at p xs
    ∙ ap (slice_get xs)
    (position_or_len_is p xs n 0 (omega (arith, size)) (λ q h. ap p (item from n q (from + q) h refl) ∙ none (from + q) (omega arith) (omega (arith, h)))
    (λ h. absurd (omega (arith, size, h))))
    ∙ slice_get_past xs n (omega (arith, size))
