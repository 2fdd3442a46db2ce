-- What stands behind the first element that passes.
use Rattle.std.proofs.Common.{◌≡◌, ℕ, suc, ◌+◌, ◌-◌, ◌<◌, Bool, true, false, cond, List, [], ◌∷◌, length, drop, take, get_or, Some, None, refl, sym, ap, ◌∙◌, arith}
use Rattle.std.specs.List.{list_any, after_first}
use Rattle.std.proofs.lemmas.List.{take_rest}
use Rattle.std.proofs.lemmas.List.Sums.{position_or_len_is}
use Rattle.std.proofs.lemmas.List.Folds.{list_any_at}

none_passes : (p : ℕ → Bool) (xs : List ℕ) → ((k : ℕ) → k < length xs → p (get_or xs k 0) ≡ false) → list_any p xs ≡ false
none_passes p [] none = refl
none_passes p (x ∷ xs) none = rw (none 0 (omega arith)) (none_passes p xs (λ k h. none (suc k) (omega (arith, h))))

chosen : {A : Type 0} (b : Bool) (x y : A) → b ≡ true → x ≡ y → Some x ≡ cond b (Some y) None
chosen b x y e h = rw e (ap Some h)

refused : {A : Type 0} (b : Bool) (y : A) → b ≡ false → None ≡ cond b (Some y) None
refused b y e = rw e refl

pub behind_first : (p : ℕ → Bool) (xs : List ℕ) (n : ℕ) → n < length xs → ((k : ℕ) → k < n → p (get_or xs k 0) ≡ false) → p (get_or xs n 0) ≡ true
    → Some (take (length xs - (n + 1)) (drop (n + 1) xs)) ≡ cond (list_any p xs) (Some (after_first p xs)) None
behind_first p xs n within none here =
    chosen (list_any p xs) _ (after_first p xs) (list_any_at p xs n 0 within here)
    (take_rest xs (n + 1) ∙ ap (λ k. drop (k + 1) xs) (sym (position_or_len_is p xs n 0 (omega (arith, within)) none (λ h. here))))

pub behind_none : (p : ℕ → Bool) (xs : List ℕ) → ((k : ℕ) → k < length xs → p (get_or xs k 0) ≡ false) → None ≡ cond (list_any p xs) (Some (after_first p xs)) None
behind_none p xs none = refused (list_any p xs) (after_first p xs) (none_passes p xs none)
