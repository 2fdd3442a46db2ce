-- Lists in which no number stands twice.
use Rattle.std.proofs.Common.{◌≡◌, ℕ, suc, ◌+◌, ◌≤◌, Bool, true, false, not, ◌||◌, ◌==◌, cond, List, [], ◌∷◌, refl, sym, ap, ◌∙◌, arith, eqb-true, eq-eqb}
use Rattle.std.specs.Prelude.{count_by}
use Rattle.std.proofs.lemmas.List.Sums.{sum_by-append}
use Rattle.vs_design.specs.Footprints.{contains}
use Rattle.vs_flat.specs.Lawful.{are_different}
use Rattle.vs_flat.proofs.Agreeing.{and_both, and_true}

by_test : {P : Type 0} (b : Bool) → (b ≡ true → P) → (b ≡ false → P) → P
by_test true f g = f refl
by_test false f g = g refl

abbrev pub times : ℕ → List ℕ → ℕ
times n ns = count_by (λ m. m == n) ns

times-cons : (n m : ℕ) (ms : List ℕ) → times n (m ∷ ms) ≡ cond (m == n) 1 0 + times n ms
times-cons n m ms = sum_by-append (λ (k : ℕ). cond (k == n) 1 0) (m ∷ []) ms ∙ ap (λ k. k + times n ms) (omega arith)

times_here : (n m : ℕ) (ms : List ℕ) → (m == n) ≡ true → times n (m ∷ ms) ≡ suc (times n ms)
times_here n m ms e = times-cons n m ms ∙ ap (λ b. cond b 1 0 + times n ms) e ∙ omega arith

times_elsewhere : (n m : ℕ) (ms : List ℕ) → (m == n) ≡ false → times n (m ∷ ms) ≡ times n ms
times_elsewhere n m ms e = times-cons n m ms ∙ ap (λ b. cond b 1 0 + times n ms) e ∙ omega arith

turned : (n m : ℕ) → (m == n) ≡ true → (n == m) ≡ true
turned n m e = eq-eqb n m (sym (eqb-true m n e))

absent : (n : ℕ) (ms : List ℕ) → contains ms n ≡ false → times n ms ≡ 0
absent n [] h = refl
absent n (m ∷ ms) h =
    by_test (n == m) (λ e. let t : (n == m) || contains ms n ≡ true = ap (λ b. b || contains ms n) e in cc)
    (λ e.
    let rest : contains ms n ≡ false = sym (ap (λ b. b || contains ms n) e) ∙ h in
    by_test (m == n) (λ f. let t = turned n m f in cc) (λ f. times_elsewhere n m ms f ∙ absent n ms rest))

present : (n : ℕ) (ms : List ℕ) → contains ms n ≡ true → 1 ≤ times n ms
present n [] h = cc
present n (m ∷ ms) h =
    by_test (m == n) (λ e. omega (arith, times_here n m ms e))
    (λ e.
    let rest : contains ms n ≡ true = by_test (n == m) (λ f. let t = turned m n f in cc) (λ f. sym (ap (λ b. b || contains ms n) f) ∙ h) in
    omega (arith, times_elsewhere n m ms e, present n ms rest))

pub different_once : (ns : List ℕ) → are_different ns ≡ true → (n : ℕ) → times n ns ≤ 1
different_once [] h n = omega arith
different_once (m ∷ ms) h n =
    let b = and_both (not (contains ms m)) (are_different ms) h in
    by_test (m == n)
    (λ e.
    let free : contains ms m ≡ false = by_test (contains ms m) (λ c. let t : not (contains ms m) ≡ false = ap not c in cc) (λ c. c) in
    let none : times n ms ≡ 0 = absent n ms (ap (contains ms) (sym (eqb-true m n e)) ∙ free) in
    omega (arith, times_here n m ms e, none))
    (λ e. omega (arith, times_elsewhere n m ms e, different_once ms b.1 n))

pub once_different : (ns : List ℕ) → ((n : ℕ) → times n ns ≤ 1) → are_different ns ≡ true
once_different [] h = refl
once_different (m ∷ ms) h =
    and_true (not (contains ms m)) (are_different ms)
    (by_test (contains ms m) (λ c. absurd (omega (arith, h m, times_here m m ms (eq-eqb m m refl), present m ms c))) (λ c. ap not c))
    (once_different ms (λ n. by_test (m == n) (λ e. omega (arith, h n, times_here n m ms e)) (λ e. omega (arith, h n, times_elsewhere n m ms e))))
