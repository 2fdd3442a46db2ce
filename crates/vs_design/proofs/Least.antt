-- The least of a list.
use Rattle.std.proofs.Common.{◌≡◌, ℕ, ◌≤◌, ◌<◌, true, false, List, [], ◌∷◌, ◌||◌, ◌==◌, ◌⊎◌, inl, inr, refl, subst, min, arith, eqb-true, eq-eqb, Some, None}
use Rattle.std.proofs.lemmas.Bool.{cases_lt}
use Rattle.vs_design.specs.Footprints.{contains}
use Rattle.vs_design.specs.Refusals.{least_with, least}
use Rattle.vs_design.specs.RefusalLaws.{IsLeastOf}
use Rattle.vs_design.proofs.Lists.{by_test, or_left, or_right, or_false, contains_head}
use Rattle.vs_design.proofs.Writes.{either_way}

pub least_none : (xs : List ℕ) → least xs ≡ None → xs ≡ []
least_none [] h = refl
least_none (x ∷ xs) h = cc

pub none_least : (xs : List ℕ) → xs ≡ [] → least xs ≡ None
none_least xs h = rw h refl

least_more : (n k : ℕ) (ns : List ℕ) (m : ℕ) → IsLeastOf (min n k ∷ ns) m → IsLeastOf (n ∷ k ∷ ns) m
least_more n k ns l r = record { there = in_more l r.there; least = lower }
  where
    in_more : (m : ℕ) → contains (min n k ∷ ns) m ≡ true → contains (n ∷ k ∷ ns) m ≡ true
    in_more m h =
        by_test (m == min n k)
        (λ e. go (eqb-true m (min n k) e) (cases_lt n k))
        (λ e. or_right (m == n) ((m == k) || contains ns m) (or_right (m == k) (contains ns m) (subst (λ x. (x || contains ns m) ≡ true) e h)))
      where
        go : m ≡ min n k → (n < k) ⊎ (k ≤ n) → contains (n ∷ k ∷ ns) m ≡ true
        go e (inl l) = or_left (m == n) ((m == k) || contains ns m) (eq-eqb m n (omega arith))
        go e (inr l) = or_right (m == n) ((m == k) || contains ns m) (or_left (m == k) (contains ns m) (eq-eqb m k (omega arith)))

    lower : (m : ℕ) → contains (n ∷ k ∷ ns) m ≡ true → l ≤ m
    lower m h =
        let a = r.least (min n k) (contains_head (min n k) ns) in
        by_test (m == n)
        (λ e. let q = eqb-true m n e in omega (arith, a))
        (λ e.
        let h' : ((m == k) || contains ns m) ≡ true = subst (λ x. (x || ((m == k) || contains ns m)) ≡ true) e h in
        by_test (m == k)
        (λ f. let q = eqb-true m k f in omega (arith, a))
        (λ f. r.least m (or_right (m == min n k) (contains ns m) (subst (λ x. (x || contains ns m) ≡ true) f h'))))

only_one : (n m : ℕ) → contains (n ∷ []) m ≡ true → m ≡ n
only_one n m h = by_test (m == n) (λ e. eqb-true m n e) (λ e. absurd (either_way ((m == n) || false) h (or_false (m == n) false e refl)))

least_with_is : (n : ℕ) (ns : List ℕ) → IsLeastOf (n ∷ ns) (least_with n ns)
least_with_is n [] = record { there = contains_head n []; least = λ m h. let e = only_one n m h in omega (arith, e) }
least_with_is n (k ∷ ns) = least_more n k ns (least_with (min n k) ns) (least_with_is (min n k) ns)

pub least_is : (ns : List ℕ) (n : ℕ) → least ns ≡ Some n → IsLeastOf ns n
least_is [] n h = cc
least_is (m ∷ ms) n h = subst (IsLeastOf (m ∷ ms)) (value (least_with m ms) n h) (least_with_is m ms)
  where
    value : (x y : ℕ) → Some x ≡ Some y → x ≡ y
    value x y e = cc
