-- Lists that have each number once.
use Rattle.std.proofs.Common.{◌≡◌, ℕ, zero, suc, ◌+◌, ◌<◌, ◌≤◌, Bool, true, false, List, [], ◌∷◌, ◌&&◌, ◌||◌, ◌==◌, if◌then◌else◌, nat_lt, length, sym, ap, ◌∙◌, subst, refl, arith, eqb-true, eq-eqb, ne_eqb}
use Rattle.std.specs.List.{filter}
use Rattle.std.proofs.lemmas.Bool.{both_ways}
use Rattle.vs_design.specs.Values.{count_from}
use Rattle.vs_design.specs.Footprints.{contains}
use Rattle.vs_design.specs.Sizes.{distinct}
use Rattle.vs_design.specs.Cycles.{AreApart}
use Rattle.vs_design.specs.Laws.{AscendingHas}
use Rattle.vs_cone.specs.Lists.{FewAreApart, AscendingIsOnce}
use Rattle.vs_cone.proofs.Writes.{by_test}

lt_true : (m n : ℕ) → m < n → nat_lt m n ≡ true
lt_true m n h = grind arith

in_first : (p : ℕ) (ps : List ℕ) → contains (p ∷ ps) p ≡ true
in_first p ps = ap (λ c. c || contains ps p) (eq-eqb p p refl)

in_rest : (p : ℕ) (ps : List ℕ) (q : ℕ) → contains ps q ≡ true → contains (p ∷ ps) q ≡ true
in_rest p ps q h = by_test (q == p) (λ e. ap (λ z. z || contains ps q) e) (λ e. ap (λ z. z || contains ps q) e ∙ h)

first_or : {P : Type 0} (p : ℕ) (ps : List ℕ) (q : ℕ) → contains (p ∷ ps) q ≡ true → (q ≡ p → P) → (contains ps q ≡ true → P) → P
first_or p ps q h f g = by_test (q == p)
    (λ e. f (eqb-true q p e))
    (λ e. g (subst (λ c. (c || contains ps q) ≡ true) e h))

-- all but one number
but : ℕ → List ℕ → List ℕ
but b [] = []
but b (x ∷ xs) = if x == b then but b xs else (x ∷ but b xs)

but_has : (b : ℕ) (xs : List ℕ) (c : ℕ) → contains (but b xs) c ≡ true → (contains xs c ≡ true) × (c ≡ b → ⊥)
unfolding but
but_has b [] c h = cc
but_has b (x ∷ xs) c h =
    by_test (x == b)
    (λ e. let r = but_has b xs c (subst (λ (z : Bool). contains (if z then but b xs else (x ∷ but b xs)) c ≡ true) e h) in (in_rest x xs c r.0, r.1))
    (λ e.
    first_or x (but b xs) c (subst (λ (z : Bool). contains (if z then but b xs else (x ∷ but b xs)) c ≡ true) e h)
    (λ is. (subst (λ z. contains (x ∷ xs) z ≡ true) (sym is) (in_first x xs), λ k. both_ways (x == b) e (eq-eqb x b (sym is ∙ k))))
    (λ k. let r = but_has b xs c k in (in_rest x xs c r.0, r.1)))

but_none : (b : ℕ) (xs : List ℕ) (c : ℕ) → contains xs c ≡ false → contains (but b xs) c ≡ false
but_none b xs c h = by_test (contains (but b xs) c) (λ e. absurd (both_ways (contains xs c) h (but_has b xs c e).0)) (λ e. e)

but_apart : (b : ℕ) (xs : List ℕ) → AreApart xs → AreApart (but b xs)
unfolding but
but_apart b [] h = tt
but_apart b (x ∷ xs) h =
    by_test (x == b)
    (λ e. subst (λ (z : Bool). AreApart (if z then but b xs else (x ∷ but b xs))) (sym e) (but_apart b xs h.1))
    (λ e. subst (λ (z : Bool). AreApart (if z then but b xs else (x ∷ but b xs))) (sym e) (but_none b xs x h.0, but_apart b xs h.1))

-- it is one fewer at most
but_length : (b : ℕ) (xs : List ℕ) → AreApart xs → length xs ≤ 1 + length (but b xs)
unfolding but
but_length b [] h = omega arith
but_length b (x ∷ xs) h =
    by_test (x == b)
    (λ e.
    let same : length (but b (x ∷ xs)) ≡ length (but b xs) = ap (λ (z : Bool). length (if z then but b xs else (x ∷ but b xs))) e in
    let all = but_all b xs (subst (λ z. contains xs z ≡ false) (eqb-true x b e) h.0) in
    omega (arith, same, all))
    (λ e.
    let same : length (but b (x ∷ xs)) ≡ suc (length (but b xs)) = ap (λ (z : Bool). length (if z then but b xs else (x ∷ but b xs))) e in
    let rest = but_length b xs h.1 in
    omega (arith, same, rest))
  where
    but_all : (b : ℕ) (xs : List ℕ) → contains xs b ≡ false → length (but b xs) ≡ length xs
    but_all b [] h = refl
    but_all b (x ∷ xs) h =
        by_test (x == b)
        (λ e. absurd (both_ways (contains (x ∷ xs) b) h (subst (λ z. contains (x ∷ xs) z ≡ true) (eqb-true x b e) (in_first x xs))))
        (λ e.
        ap (λ (z : Bool). length (if z then but b xs else (x ∷ but b xs))) e
        ∙ ap suc (but_all b xs (by_test (contains xs b) (λ k. absurd (both_ways (contains (x ∷ xs) b) h (in_rest x xs b k))) (λ k. k))))

-- different numbers of a list are no more than its different numbers
no_more : (bs xs : List ℕ) → AreApart xs → ((c : ℕ) → contains xs c ≡ true → contains bs c ≡ true) → length xs ≤ distinct bs
no_more [] [] h all = omega arith
no_more [] (x ∷ xs) h all = absurd (none (all x (in_first x xs)))
  where
    none : contains [] x ≡ true → ⊥
    none k = cc
no_more (b ∷ bs) xs h all =
    by_test (contains bs b)
    (λ e.
    let rest = no_more bs xs h (λ c k. first_or b bs c (all c k) (λ is. subst (λ z. contains bs z ≡ true) (sym is) e) (λ u. u)) in
    let same : distinct (b ∷ bs) ≡ 0 + distinct bs = ap (λ (z : Bool). (if z then 0 else 1) + distinct bs) e in
    omega (arith, rest, same))
    (λ e.
    let rest = no_more bs (but b xs) (but_apart b xs h) (λ c k. let r = but_has b xs c k in first_or b bs c (all c r.0) (λ is. absurd (r.1 is)) (λ u. u)) in
    let same : distinct (b ∷ bs) ≡ 1 + distinct bs = ap (λ (z : Bool). (if z then 0 else 1) + distinct bs) e in
    let one = but_length b xs h in
    omega (arith, rest, same, one))

pub few_are_apart : FewAreApart
few_are_apart all bits apart own = no_more all bits apart own

-- each number of a list once
once_each : List ℕ → List ℕ
once_each [] = []
once_each (x ∷ xs) = if contains xs x then once_each xs else (x ∷ once_each xs)

once_among : (xs : List ℕ) (c : ℕ) → contains (once_each xs) c ≡ true → contains xs c ≡ true
unfolding once_each
once_among [] c h = cc
once_among (x ∷ xs) c h =
    by_test (contains xs x)
    (λ e. in_rest x xs c (once_among xs c (subst (λ (z : Bool). contains (if z then once_each xs else (x ∷ once_each xs)) c ≡ true) e h)))
    (λ e.
    first_or x (once_each xs) c (subst (λ (z : Bool). contains (if z then once_each xs else (x ∷ once_each xs)) c ≡ true) e h)
    (λ is. subst (λ z. contains (x ∷ xs) z ≡ true) (sym is) (in_first x xs))
    (λ k. in_rest x xs c (once_among xs c k)))

once_apart : (xs : List ℕ) → AreApart (once_each xs)
unfolding once_each
once_apart [] = tt
once_apart (x ∷ xs) =
    by_test (contains xs x)
    (λ e. subst (λ (z : Bool). AreApart (if z then once_each xs else (x ∷ once_each xs))) (sym e) (once_apart xs))
    (λ e.
    subst (λ (z : Bool). AreApart (if z then once_each xs else (x ∷ once_each xs))) (sym e)
    (by_test (contains (once_each xs) x) (λ k. absurd (both_ways (contains xs x) e (once_among xs x k))) (λ k. k), once_apart xs))

once_length : (xs : List ℕ) → length (once_each xs) ≡ distinct xs
unfolding once_each
once_length [] = refl
once_length (x ∷ xs) = let rest = once_length xs in by_test (contains xs x) (λ e. rw e (omega (arith, rest))) (λ e. rw e (omega (arith, rest)))

-- of more numbers no fewer are different
pub distinct_more : (xs bs : List ℕ) → ((c : ℕ) → contains xs c ≡ true → contains bs c ≡ true) → distinct xs ≤ distinct bs
distinct_more xs bs all =
    let few = no_more bs (once_each xs) (once_apart xs) (λ c h. all c (once_among xs c h)) in
    omega (arith, few, once_length xs)

-- numbers in order are different
counted_low : (test : ℕ → Bool) (k n b : ℕ) → b < k → contains (filter test (count_from k n)) b ≡ false
counted_low test k zero b l = refl
counted_low test k (suc n) b l =
    let rest = counted_low test (suc k) n b (omega (arith, l)) in
    by_test (test k)
    (λ e. ap (λ (z : Bool). contains (if z then (k ∷ filter test (count_from (suc k) n)) else filter test (count_from (suc k) n)) b) e ∙ ap (λ z. z || contains (filter test (count_from (suc k) n)) b) (ne_eqb b k (λ h. absurd (omega (arith, h, l)))) ∙ rest)
    (λ e. ap (λ (z : Bool). contains (if z then (k ∷ filter test (count_from (suc k) n)) else filter test (count_from (suc k) n)) b) e ∙ rest)

counted_apart : (test : ℕ → Bool) (k n : ℕ) → AreApart (filter test (count_from k n))
counted_apart test k zero = tt
counted_apart test k (suc n) =
    by_test (test k)
    (λ e. subst (λ (z : Bool). AreApart (if z then (k ∷ filter test (count_from (suc k) n)) else filter test (count_from (suc k) n))) (sym e) (counted_low test (suc k) n k (omega arith), counted_apart test (suc k) n))
    (λ e. subst (λ (z : Bool). AreApart (if z then (k ∷ filter test (count_from (suc k) n)) else filter test (count_from (suc k) n))) (sym e) (counted_apart test (suc k) n))

pub ascending_once : AscendingHas → AscendingIsOnce
ascending_once has count all below = record {
  has = λ b. has count all b ∙ by_test (contains all b)
      (λ e. ap (λ z. z && nat_lt b count) e ∙ lt_true b count (below b e) ∙ sym e)
      (λ e. ap (λ z. z && nat_lt b count) e ∙ sym e);
  once = counted_apart (contains all) 0 count;
}
