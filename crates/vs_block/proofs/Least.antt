-- The least of numbers that pass a test.
use Rattle.std.proofs.Common.{◌≡◌, ℕ, ◌<◌, ◌≤◌, Bool, true, false, ◌||◌, ◌&&◌, ◌==◌, nat_lt, List, [], ◌∷◌, refl, sym, ap, ◌∙◌, subst, eqb-true, get_or, length, min, arith, Some, None, ◌⊎◌, inl, inr}
use Rattle.std.specs.Prelude.{filter}
use Rattle.std.specs.List.Sorted.{IsStrictlyIncreasing}
use Rattle.std.proofs.lemmas.Bool.{ltb-true, ltb-false}
use Rattle.vs_design.specs.Footprints.{contains}
use Rattle.vs_design.specs.Refusals.{least_with, least}
use Rattle.vs_block.proofs.Truth.{contains_filter, place_in}
use Rattle.vs_reads.proofs.Tests.{by_test, either_way, and_both, contains_head, contains_tail, member_at}
use Rattle.vs_shape.proofs.Among.{rises_to}

-- one of the two, and no greater than either
abbrev IsSmaller : ℕ → ℕ → ℕ → Type 0
IsSmaller k n m = ((k ≡ n) ⊎ (k ≡ m)) × (k ≤ n) × (k ≤ m)

smaller : (n m : ℕ) → IsSmaller (min n m) n m
smaller n m =
    by_test (nat_lt m n)
    (λ e. let k = ltb-true m n e in (inr (omega (arith, k)), omega arith, omega arith))
    (λ e. let k = ltb-false m n e in (inl (omega (arith, k)), omega arith, omega arith))

least_there : (n : ℕ) (ns : List ℕ) → contains (n ∷ ns) (least_with n ns) ≡ true
least_there n [] = contains_head n []
least_there n (m ∷ ms) = go (min n m) (smaller n m).0 (least_with (min n m) ms) (least_there (min n m) ms)
  where
    go : (k : ℕ) → (k ≡ n) ⊎ (k ≡ m) → (l : ℕ) → contains (k ∷ ms) l ≡ true → contains (n ∷ m ∷ ms) l ≡ true
    go k e l h =
        by_test (l == k)
        (λ s. either (e) (eqb-true l k s))
        (λ s. contains_tail l n (m ∷ ms) (contains_tail l m ms (subst (λ t. (t || contains ms l) ≡ true) s h)))
      where
        either : (k ≡ n) ⊎ (k ≡ m) → l ≡ k → contains (n ∷ m ∷ ms) l ≡ true
        either (inl i) s = subst (λ z. contains (n ∷ m ∷ ms) z ≡ true) (sym (s ∙ i)) (contains_head n (m ∷ ms))
        either (inr i) s = subst (λ z. contains (n ∷ m ∷ ms) z ≡ true) (sym (s ∙ i)) (contains_tail m n (m ∷ ms) (contains_head m ms))

least_below : (n : ℕ) (ns : List ℕ) (b : ℕ) → contains (n ∷ ns) b ≡ true → least_with n ns ≤ b
least_below n [] b h = by_test (b == n) (λ e. let s = eqb-true b n e in omega (arith, s)) (λ e. absurd (none (subst (λ t. (t || false) ≡ true) e h)))
  where
    none : (false || false) ≡ true → ⊥
    none h = cc
least_below n (m ∷ ms) b h =
    let small = smaller n m in
    let first = least_below (min n m) ms (min n m) (contains_head (min n m) ms) in
    by_test (b == n)
    (λ e. let s = eqb-true b n e in let c = small.1 in omega (arith, s, c, first))
    (λ e. by_test (b == m)
    (λ f. let s = eqb-true b m f in let c = small.2 in omega (arith, s, c, first))
    (λ f. least_below (min n m) ms b (contains_tail b (min n m) ms (subst (λ t. (t || contains ms b) ≡ true) f (subst (λ t. (t || ((b == m) || contains ms b)) ≡ true) e h)))))

pub least_is : (ns : List ℕ) (b : ℕ) → contains ns b ≡ true → ((c : ℕ) → contains ns c ≡ true → b ≤ c) → least ns ≡ Some b
least_is [] b h l = cc
least_is (n ∷ ns) b h l =
    let first = least_below n ns b h in
    let last = l (least_with n ns) (least_there n ns) in
    let same : least_with n ns ≡ b = omega (arith, first, last) in
    ap Some same

pub least_none : (ns : List ℕ) → ((b : ℕ) → contains ns b ≡ false) → least ns ≡ None
least_none [] h = refl
least_none (n ∷ ns) h = either_way (contains (n ∷ ns) n) (contains_head n ns) (h n)

-- lists with the same members have the same least one
pub least_same : (xs ys : List ℕ) → ((b : ℕ) → contains xs b ≡ contains ys b) → least xs ≡ least ys
least_same [] ys h = sym (least_none ys (λ b. sym (h b)))
least_same (x ∷ xs) ys h = sym (least_is ys (least_with x xs) (sym (h (least_with x xs)) ∙ least_there x xs) (λ c k. least_below x xs c (h c ∙ k)))

-- of rising numbers the first that passes
pub first_is : (f : ℕ → Bool) (xs : List ℕ) (i : ℕ) → IsStrictlyIncreasing xs → i < length xs → f (get_or xs i 0) ≡ true → ((j : ℕ) → j < i → f (get_or xs j 0) ≡ false) → least (filter f xs) ≡ Some (get_or xs i 0)
first_is f xs i rises h here before =
    least_is (filter f xs) (get_or xs i 0) (contains_filter f xs (get_or xs i 0) ∙ both (contains xs (get_or xs i 0)) (f (get_or xs i 0)) (member_at xs i h) here)
    (λ c k.
    let b = and_both (contains xs c) (f c) (sym (contains_filter f xs c) ∙ k) in
    let p = place_in xs c b.0 in
    by_test (nat_lt p.0 i)
    (λ e. either_way (f c) b.1 (subst (λ z. f z ≡ false) p.2 (before p.0 (ltb-true p.0 i e))))
    (λ e. subst (λ z. get_or xs i 0 ≤ z) p.2 (rises_to xs rises i p.0 (ltb-false p.0 i e) p.1)))
  where
    both : (a b : Bool) → a ≡ true → b ≡ true → (a && b) ≡ true
    both true b h k = k
    both false b h k = cc

pub first_none : (f : ℕ → Bool) (xs : List ℕ) → ((j : ℕ) → j < length xs → f (get_or xs j 0) ≡ false) → least (filter f xs) ≡ None
first_none f xs h = least_none (filter f xs) (λ b. contains_filter f xs b ∙ by_test (contains xs b) (λ e. let p = place_in xs b e in and_second (contains xs b) (f b) (subst (λ z. f z ≡ false) p.2 (h p.0 p.1))) (λ e. and_first (contains xs b) (f b) e))
  where
    and_second : (a b : Bool) → b ≡ false → (a && b) ≡ false
    and_second true b h = h
    and_second false b h = refl

    and_first : (a b : Bool) → a ≡ false → (a && b) ≡ false
    and_first true b h = cc
    and_first false b h = refl
