-- What stands before the first element that passes.
use Rattle.std.proofs.Common.{◌≡◌, ℕ, ◌≤◌, ◌<◌, Bool, true, false, List, length, take, get_or, sym, ap}
use Rattle.std.specs.List.{before_first}
use Rattle.std.proofs.lemmas.List.Sums.{position_or_len_is}

pub before_one : (p : ℕ → Bool) (xs : List ℕ) (n : ℕ) → n ≤ length xs → ((k : ℕ) → k < n → p (get_or xs k 0) ≡ false)
    → (n < length xs → p (get_or xs n 0) ≡ true) → take n xs ≡ before_first p xs
before_one p xs n within none found = ap (λ k. take k xs) (sym (position_or_len_is p xs n 0 within none found))
