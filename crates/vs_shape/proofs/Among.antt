-- What a binary search finds in rising numbers.
use Rattle.std.proofs.Common.{◌≡◌, ℕ, zero, suc, ◌+◌, ◌-◌, ◌<◌, ◌≤◌, ◌==◌, ◌||◌, Bool, true, false, List, [], ◌∷◌, length, get_or, refl, sym, ap, ◌∙◌, subst, arith}
use Rattle.std.specs.Prelude.{Result, Ok, Err, MatchResult, is_ok, nat_lt}
use Rattle.std.specs.List.Sorted.{IsStrictlyIncreasing, IsBinarySearchResult}
use Rattle.std.specs.Ordering.{nat_cmp}
use Rattle.std.proofs.lemmas.Bool.{eqb-true}
use Rattle.std.proofs.lemmas.List.Sorted.{searched}
use Rattle.vs_design.specs.Footprints.{contains}

rises_by : (xs : List ℕ) → IsStrictlyIncreasing xs → (i d : ℕ) → i + d < length xs → get_or xs i 0 ≤ get_or xs (i + d) 0
rises_by xs r i zero h = let P : ℕ → Type 0 = λ n. get_or xs i 0 ≤ get_or xs n 0 in let same : i ≡ i + zero = omega arith in subst P same (omega arith)
rises_by xs r i (suc d) h =
    let before = rises_by xs r i d (omega arith) in
    let step = r (i + d) (omega arith) in
    let P : ℕ → Type 0 = λ n. get_or xs i 0 ≤ get_or xs n 0 in
    let same : (i + d) + 1 ≡ i + suc d = omega arith in
    subst P same (omega (arith, before, step))

pub rises_to : (xs : List ℕ) → IsStrictlyIncreasing xs → (i j : ℕ) → i ≤ j → j < length xs → get_or xs i 0 ≤ get_or xs j 0
rises_to xs r i j h k =
    let P : ℕ → Type 0 = λ n. get_or xs i 0 ≤ get_or xs n 0 in
    let same : i + (j - i) ≡ j = omega arith in
    subst P same (rises_by xs r i (j - i) (omega arith))

-- a member has an index, and what has an index is a member
index_of : (xs : List ℕ) (b : ℕ) → contains xs b ≡ true → (k : ℕ) × (k < length xs) × (get_or xs k 0 ≡ b)
index_of [] b h = cc
index_of (x ∷ xs) b h = cases (b == x) refl (index_of xs b) h
  where
    cases : (c : Bool) → (b == x) ≡ c → (contains xs b ≡ true → (k : ℕ) × (k < length xs) × (get_or xs k 0 ≡ b)) → (c || contains xs b) ≡ true → (k : ℕ) × (k < length (x ∷ xs)) × (get_or (x ∷ xs) k 0 ≡ b)
    cases true e f k = (zero, omega arith, sym (eqb-true b x e))
    cases false e f k = let r = f k in (suc r.0, omega (arith, r.1), r.2)

member_at : (xs : List ℕ) (k b : ℕ) → k < length xs → get_or xs k 0 ≡ b → contains xs b ≡ true
member_at [] k b h e = absurd (omega arith)
member_at (x ∷ xs) zero b h e = ap (λ c. c || contains xs b) (same b x (sym e))
  where
    same : (b x : ℕ) → b ≡ x → (b == x) ≡ true
    same b x e = grind arith
member_at (x ∷ xs) (suc k) b h e = right (b == x) (member_at xs k b (omega arith) e)
  where
    right : (c : Bool) {d : Bool} → d ≡ true → (c || d) ≡ true
    right true h = refl
    right false h = h

-- what a binary search finds in rising numbers
pub found_is : (xs : List ℕ) (b : ℕ) (r : Result ℕ ℕ) (ok : Bool) → IsStrictlyIncreasing xs → IsBinarySearchResult (λ y. nat_cmp y b) xs r → ok ≡ is_ok r → ok ≡ contains xs b
found_is xs b r ok rises searched_for is = is ∙ go r (searched xs b r searched_for (rises_to xs rises))
  where
    go : (r : Result ℕ ℕ) → MatchResult r (λ i. (i < length xs) × (get_or xs i 0 ≡ b)) (λ i. (i ≤ length xs) × ((k : ℕ) → k < i → get_or xs k 0 < b) × ((k : ℕ) → i ≤ k → k < length xs → b < get_or xs k 0)) → is_ok r ≡ contains xs b
    go (Ok i) h = sym (member_at xs i b h.0 h.1)
    go (Err i) h = none (contains xs b) refl
      where
        apart : (k : ℕ) → k < length xs → get_or xs k 0 ≡ b → ⊥
        apart k l e = cases (nat_lt k i) refl
          where
            cases : (c : Bool) → nat_lt k i ≡ c → ⊥
            cases true n = let less : get_or xs k 0 < b = h.1 k (grind arith) in omega arith
            cases false n = let less : b < get_or xs k 0 = h.2 k (grind arith) l in omega arith

        none : (c : Bool) → contains xs b ≡ c → false ≡ contains xs b
        none true e = let at = index_of xs b e in absurd (apart at.0 at.1 at.2)
        none false e = sym e
