-- An item of a slice, and of the list that it has.
use Rattle.std.proofs.Common.{◌≡◌, ◌<◌, ◌≤◌, ℕ, zero, suc, List, [], ◌∷◌, Option, None, Some, Bor, length, get_or, slice_get, refl, ap, arith}
use Rattle.std.specs.List.{HoldsAt}
use Rattle.std.specs.Option.{IfSome, MatchOption, option_copied}

none_at : {A : Type 0} (xs : List A) (n : ℕ) → length xs ≤ n → None ≡ slice_get xs n
none_at [] n h = refl
none_at (x ∷ xs) zero h = absurd (omega arith)
none_at (x ∷ xs) (suc n) h = none_at xs n (omega arith)

some_at : {A : Type 0} (xs : List A) (n : ℕ) (x : A) → n < length xs → x ≡ get_or xs n x → Some x ≡ slice_get xs n
some_at [] n x h k = absurd (omega arith)
some_at (y ∷ xs) zero x h k = ap Some k
some_at (y ∷ xs) (suc n) x h k = some_at xs n x (omega arith) k

pub copied_at : {A : Type 0} (o : Option (Bor A)) (xs : List A) (n : ℕ) → IfSome o (λ x. x.now ≡ get_or xs n x.now) → MatchOption o (length xs ≤ n) (λ x. (n < length xs) × HoldsAt (λ y. x.now ≡ y) xs n) → option_copied o ≡ slice_get xs n
copied_at None xs n h k = none_at xs n k
copied_at (Some x) xs n h k = some_at xs n x.now k.0 h
