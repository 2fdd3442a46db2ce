-- The numbers of signals that were noted.
use Rattle.std.proofs.Common.{◌≡◌, ◌<◌, ◌==◌, ◌||◌, ◌&&◌, ℕ, zero, suc, List, [], ◌∷◌, length, get_or, arith, Bool, true, false, Option, Some, None, is_some, if◌then◌else◌, refl, sym, ap, ◌∙◌, subst}
use Rattle.std.proofs.lemmas.Bool.{eqb-true}
use Rattle.vs_maps.specs.Places.{found_at, or_at}
use Rattle.vs_maps.specs.PlaceViews.{placed}
use Rattle.vs_maps.specs.declared.places.PlaceMap.{PlaceMap}

pub or_none : (b : Bool) → (b || false) ≡ b
or_none true = refl
or_none false = refl

-- one that was noted before
pub noted_again : {V : Type 0} (numbers : PlaceMap V) (p n : ℕ) → is_some (found_at p (placed numbers)) ≡ true → is_some (found_at n (placed numbers)) ≡ (is_some (found_at n (placed numbers)) || (p == n))
noted_again numbers p n h = by (p == n) refl
  where
    by : (b : Bool) → (p == n) ≡ b → is_some (found_at n (placed numbers)) ≡ (is_some (found_at n (placed numbers)) || b)
    by true e = let there = subst (λ (k : ℕ). is_some (found_at k (placed numbers)) ≡ true) (eqb-true p n e) h in there ∙ sym (ap (λ (c : Bool). c || true) there)
    by false e = sym (or_none (is_some (found_at n (placed numbers))))

-- one that is noted now
pub noted_now : {V : Type 0} (old new : PlaceMap V) (p n : ℕ) (v : V) → found_at n (placed new) ≡ or_at n (found_at n (placed old)) p v → is_some (found_at n (placed new)) ≡ (is_some (found_at n (placed old)) || (p == n))
noted_now {V} old new p n v h = ap is_some h ∙ by (found_at n (placed old))
  where
    at : (b : Bool) → is_some (if b then Some v else None) ≡ b
    at true = refl
    at false = refl

    by : (o : Option V) → is_some (or_at n o p v) ≡ (is_some o || (p == n))
    by None = at (p == n)
    by (Some w) = refl

-- nothing is noted
pub noted_not : (b c : Bool) → b ≡ (b || (false && c))
noted_not b c = sym (or_none b)

-- one of a list, whatever stands for it behind the list's end
pub item_is : {A : Type 0} (xs : List A) (i : ℕ) (d : A) → i < length xs → get_or xs i d ≡ get_or xs i (get_or xs i d)
item_is [] i d h = absurd (omega arith)
item_is (x ∷ xs) zero d h = refl
item_is (x ∷ xs) (suc i) d h = other xs i d (get_or xs i d) (omega arith)
  where
    other : {A : Type 0} (ys : List A) (k : ℕ) (a b : A) → k < length ys → get_or ys k a ≡ get_or ys k b
    other [] k a b h = absurd (omega arith)
    other (y ∷ ys) zero a b h = refl
    other (y ∷ ys) (suc k) a b h = other ys k a b (omega arith)
