-- The numbers below a count that pass, one more of which was looked at.
use Rattle.std.proofs.Common.{◌≡◌, ℕ, ◌+◌, ◌<◌, Bool, true, false, cond, List, [], ◌∷◌, ◌++◌, take, filter, sym, ap, ◌∙◌, append-nil, arith}
use Rattle.std.specs.List.{range_with_len}
use Rattle.std.proofs.lemmas.List.Elements.{filter_more}
use Rattle.std.proofs.lemmas.List.FromFn.{length-range_with_len, get_or-range_with_len}

abbrev below : ℕ → List ℕ
below n = range_with_len 0 n

looked : (p : ℕ → Bool) (n at : ℕ) → at < n → filter p (take (at + 1) (below n)) ≡ filter p (take at (below n)) ++ cond (p at) (at ∷ []) []
looked p n at h =
    let same : 0 + at ≡ at = omega arith in
    filter_more p (below n) at 0 (omega (arith, h, length-range_with_len 0 n))
    ∙ ap (λ (k : ℕ). filter p (take at (below n)) ++ cond (p k) (k ∷ []) []) (get_or-range_with_len 0 n at 0 h ∙ same)

pub one_more : (p : ℕ → Bool) (n at : ℕ) (old : List ℕ) → at < n → old ≡ filter p (take at (below n)) → p at ≡ true → old ++ at ∷ [] ≡ filter p (take (at + 1) (below n))
one_more p n at old h e holds =
    ap (λ (xs : List ℕ). xs ++ at ∷ []) e ∙ sym (looked p n at h ∙ ap (λ (b : Bool). filter p (take at (below n)) ++ cond b (at ∷ []) []) holds)

pub none_more : (p : ℕ → Bool) (n at : ℕ) (old : List ℕ) → at < n → old ≡ filter p (take at (below n)) → p at ≡ false → old ≡ filter p (take (at + 1) (below n))
none_more p n at old h e fails =
    e ∙ sym (looked p n at h ∙ ap (λ (b : Bool). filter p (take at (below n)) ++ cond b (at ∷ []) []) fails ∙ append-nil (filter p (take at (below n))))
