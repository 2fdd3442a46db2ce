-- What stands behind the last element that passes, and before the first one.
use Rattle.std.proofs.Common.{◌≡◌, ℕ, ◌-◌, ◌≤◌, ◌<◌, Bool, true, false, not, List, length, take, drop, get_or, sym, ap, ◌∙◌, arith}
use Rattle.std.specs.List.{before_first, after_last, suffix_len}
use Rattle.std.proofs.lemmas.List.{take_rest}
use Rattle.std.proofs.lemmas.List.Sums.{position_or_len_is, suffix_len_is}

pub behind_last : (p : ℕ → Bool) (xs : List ℕ) (n : ℕ) → n ≤ length xs → ((k : ℕ) → n ≤ k → k < length xs → p (get_or xs k 0) ≡ false)
    → (0 < n → p (get_or xs (n - 1) 0) ≡ true) → take (length xs - n) (drop n xs) ≡ after_last p xs
behind_last p xs n within none found =
    let size : suffix_len (λ x. not (p x)) xs ≡ length xs - n =
    suffix_len_is (λ x. not (p x)) xs n 0 within (λ k h i. ap not (none k h i)) (λ h. ap not (found h)) in
    take_rest xs n ∙ ap (λ k. drop k xs) (let e : n ≡ length xs - suffix_len (λ x. not (p x)) xs = omega (arith, size, within) in e)

pub before_one : (p : ℕ → Bool) (xs : List ℕ) (n : ℕ) → n ≤ length xs → ((k : ℕ) → k < n → p (get_or xs k 0) ≡ false)
    → (n < length xs → p (get_or xs n 0) ≡ true) → take n xs ≡ before_first p xs
before_one p xs n within none found = ap (λ k. take k xs) (sym (position_or_len_is p xs n 0 within none found))
