-- The heaviest of some processes, when one before them is looked at.
use Rattle.std.proofs.Common.{◌≡◌, ℕ, zero, suc, ◌+◌, ◌<◌, Bool, true, false, nat_le, if◌then◌else◌, List, [], ◌∷◌, length, take, drop, get_or, Option, refl, sym, ap, ◌∙◌, arith}
use Rattle.vs_explanation.specs.declared.heavy.Heavy.{Heavy}
use Rattle.vs_explanation.specs.Heavy.{placed, by_weight, heaviest, paired}

take_again : {X : Type 0} (n : ℕ) (xs : List X) → take n (take (suc n) xs) ≡ take n xs
take_again zero xs = refl
take_again (suc n) [] = refl
take_again (suc n) (x ∷ xs) = ap (λ ys. x ∷ ys) (take_again n xs)

cut : {X : Type 0} (n : ℕ) (x : X) (xs : List X) → take n (x ∷ take n xs) ≡ take n (x ∷ xs)
cut zero x xs = refl
cut (suc n) x xs = ap (λ ys. x ∷ ys) (take_again n xs)

-- a process among the first n is placed as it is among all
take_placed : (n : ℕ) (p : Heavy) (qs : List Heavy) → take n (placed p (take n qs)) ≡ take n (placed p qs)
take_placed zero p qs = refl
take_placed (suc n) p [] = refl
take_placed (suc n) p (q ∷ qs) = at (nat_le q.weight p.weight) (take_placed n p qs) where
  at : (k : Bool) → take n (placed p (take n qs)) ≡ take n (placed p qs) → take (suc n) (if k then p ∷ (q ∷ take n qs) else q ∷ placed p (take n qs)) ≡ take (suc n) (if k then p ∷ (q ∷ qs) else q ∷ placed p qs)
  at true rest = ap (λ ys. p ∷ ys) (cut n q qs)
  at false rest = ap (λ ys. q ∷ ys) rest

-- one process before those that were looked at
pub kept_more : (p : Heavy) (qs all old new : List Heavy) → all ≡ p ∷ qs → old ≡ heaviest qs → new ≡ take 10 (placed p old) → new ≡ heaviest all
kept_more p qs all old new whole e h = h ∙ ap (λ ps. take 10 (placed p ps)) e ∙ take_placed 10 p (by_weight qs) ∙ ap heaviest (sym whole)

pub pairs_from : (bytes : List (Option ℕ)) (weights : List ℕ) (n : ℕ) (at : Option ℕ) (weight : ℕ) → length bytes ≡ length weights → n < length weights
    → drop n (paired bytes weights) ≡ record { at = get_or bytes n at; weight = get_or weights n weight } ∷ drop (n + 1) (paired bytes weights)
pairs_from bytes [] n at weight same within = absurd (omega (arith, within))
pairs_from [] (w ∷ ws) n at weight same within = absurd (omega (arith, same))
pairs_from (b ∷ bs) (w ∷ ws) zero at weight same within = refl
pairs_from (b ∷ bs) (w ∷ ws) (suc n) at weight same within = let on : suc n + 1 ≡ suc (n + 1) = omega arith in pairs_from bs ws n at weight (omega (arith, same)) (omega (arith, within)) ∙ ap (λ m. record { at = get_or bs n at; weight = get_or ws n weight } ∷ drop m (paired (b ∷ bs) (w ∷ ws))) (sym on)

-- of none that were looked at
pub none_from : (bytes : List (Option ℕ)) (weights : List ℕ) → length bytes ≡ length weights → drop (length weights) (paired bytes weights) ≡ []
none_from [] [] same = refl
none_from [] (w ∷ ws) same = absurd (omega (arith, same))
none_from (b ∷ bs) [] same = absurd (omega (arith, same))
none_from (b ∷ bs) (w ∷ ws) same = none_from bs ws (omega (arith, same))
