-- How often a number stands in a list, and lists with one more at the end.
use Rattle.std.proofs.Common.{◌≡◌, ℕ, suc, ◌+◌, ◌<◌, ◌≤◌, Bool, true, false, ◌==◌, cond, nat_lt, List, [], ◌∷◌, ◌++◌, length, get_or, refl, sym, ap, ◌∙◌, subst, arith, eqb-true, eq-eqb}
use Rattle.std.specs.List.{list_all, flat_map}
use Rattle.std.proofs.Math.ListN.{get_or-append}
use Rattle.std.proofs.Math.Seq.{get_or-append_seam}
use Rattle.std.proofs.lemmas.Bool.{ltb-false}
use Rattle.std.proofs.lemmas.Grind.{flat_map-append}
use Rattle.std.proofs.lemmas.List.Folds.{list_all-append}
use Rattle.std.proofs.lemmas.List.Sums.{sum_by-append}
use Rattle.vs_flat.specs.Named.{all_below}
use Rattle.vs_flat.proofs.Agreeing.{and_true}
use Rattle.vs_grammar.specs.Shapes.{Each}
use Rattle.vs_build.specs.Growth.{times}

pub by_test : {P : Type 0} (b : Bool) → (b ≡ true → P) → (b ≡ false → P) → P
by_test true f g = f refl
by_test false f g = g refl

pub times-append : (n : ℕ) (xs ys : List ℕ) → times n (xs ++ ys) ≡ times n xs + times n ys
times-append n xs ys = sum_by-append (λ (k : ℕ). cond (k == n) 1 0) xs ys

times-cons : (n m : ℕ) (ms : List ℕ) → times n (m ∷ ms) ≡ cond (m == n) 1 0 + times n ms
times-cons n m ms = times-append n (m ∷ []) ms ∙ ap (λ k. k + times n ms) (omega arith)

pub times_here : (n m : ℕ) (ms : List ℕ) → (m == n) ≡ true → times n (m ∷ ms) ≡ suc (times n ms)
times_here n m ms e = times-cons n m ms ∙ ap (λ b. cond b 1 0 + times n ms) e ∙ omega arith

pub times_elsewhere : (n m : ℕ) (ms : List ℕ) → (m == n) ≡ false → times n (m ∷ ms) ≡ times n ms
times_elsewhere n m ms e = times-cons n m ms ∙ ap (λ b. cond b 1 0 + times n ms) e ∙ omega arith

pub times-flat : {X : Type 0} (f : X → List ℕ) (xs : List X) (x : X) (n : ℕ) → times n (flat_map f (xs ++ x ∷ [])) ≡ times n (flat_map f xs) + times n (f x)
times-flat f xs x n =
    ap (times n) (flat_map-append f xs (x ∷ [])) ∙ times-append n (flat_map f xs) (f x ++ []) ∙ ap (λ k. times n (flat_map f xs) + k) (times-append n (f x) [] ∙ omega arith)

-- the next number, in the place of those that it names
pub once_more : (next : ℕ) (rs used : List ℕ) (m more : ℕ → ℕ) → ((n : ℕ) → times n (rs ++ used) + m n ≤ 1) → ((n : ℕ) → next ≤ n → times n (rs ++ used) + m n ≡ 0)
    → ((n : ℕ) → more n ≡ m n + times n used) → (n : ℕ) → times n (rs ++ next ∷ []) + more n ≤ 1
once_more next rs used m more once there e n =
    by_test (next == n)
    (λ h. omega (arith, there n (same h), times-append n rs used, times-append n rs (next ∷ []), times_here n next [] h, e n))
    (λ h. omega (arith, once n, times-append n rs used, times-append n rs (next ∷ []), times_elsewhere n next [] h, e n))
  where
    same : (next == n) ≡ true → next ≤ n
    same h = omega (arith, eqb-true next n h)

pub there_more : (next : ℕ) (rs used : List ℕ) (m more : ℕ → ℕ) → ((n : ℕ) → next ≤ n → times n (rs ++ used) + m n ≡ 0)
    → ((n : ℕ) → more n ≡ m n + times n used) → (n : ℕ) → suc next ≤ n → times n (rs ++ next ∷ []) + more n ≡ 0
there_more next rs used m more there e n above =
    by_test (next == n)
    (λ h. absurd (omega (arith, eqb-true next n h)))
    (λ h. omega (arith, there n (omega arith), times-append n rs used, times-append n rs (next ∷ []), times_elsewhere n next [] h, e n))

-- without those that are named from now on
pub once_less : (rs used : List ℕ) (m more : ℕ → ℕ) → ((n : ℕ) → times n (rs ++ used) + m n ≤ 1) → ((n : ℕ) → more n ≡ m n + times n used) → (n : ℕ) → times n rs + more n ≤ 1
once_less rs used m more once e n = omega (arith, once n, times-append n rs used, e n)

pub there_less : (next : ℕ) (rs used : List ℕ) (m more : ℕ → ℕ) → ((n : ℕ) → next ≤ n → times n (rs ++ used) + m n ≡ 0) → ((n : ℕ) → more n ≡ m n + times n used) → (n : ℕ) → next ≤ n → times n rs + more n ≡ 0
there_less next rs used m more there e n h = omega (arith, there n h, times-append n rs used, e n)

-- numbers that stand nowhere from `next` on are below it
pub none_below : (next : ℕ) (ns : List ℕ) → ((n : ℕ) → next ≤ n → times n ns ≡ 0) → all_below next ns ≡ true
none_below next [] h = refl
none_below next (m ∷ ms) h =
    and_true (nat_lt m next) (all_below next ms)
    (by_test (nat_lt m next) (λ e. e) (λ e. absurd (omega (arith, h m (ltb-false m next e), times_here m m ms (eq-eqb m m refl)))))
    (none_below next ms (λ n k. by_test (m == n) (λ e. omega (arith, h n k, times_here n m ms e)) (λ e. omega (arith, h n k, times_elsewhere n m ms e))))

-- ---- one more at the end

pub all_pushed : {X : Type 0} (p : X → Bool) (xs : List X) (x : X) → list_all p xs ≡ true → p x ≡ true → list_all p (xs ++ x ∷ []) ≡ true
all_pushed p xs x h k = list_all-append p xs (x ∷ []) ∙ and_true (list_all p xs) (list_all p (x ∷ [])) h (and_true (p x) true k refl)

pub last_at : {X : Type 0} (xs : List X) (x d : X) (n : ℕ) → length xs ≡ n → get_or (xs ++ x ∷ []) n d ≡ x
last_at xs x d n h = ap (λ k. get_or (xs ++ x ∷ []) k d) (sym h) ∙ get_or-append_seam xs x [] d

pub kept_at : {X : Type 0} (xs ys : List X) (x d : X) (n k : ℕ) → ys ≡ xs ++ x ∷ [] → length xs ≡ n → k < n → get_or ys k d ≡ get_or xs k d
kept_at xs ys x d n k e h l = ap (λ zs. get_or zs k d) e ∙ get_or-append xs (x ∷ []) d k (omega (arith, h, l))

-- ---- what holds of each number of a list

pub each_at : (P : ℕ → Type 0) (ns : List ℕ) → Each P ns → (k : ℕ) → 1 ≤ times k ns → P k
each_at P [] h k some = absurd (omega (arith, some))
each_at P (m ∷ ms) h k some = by_test (m == k) (λ e. subst P (eqb-true m k e) h.0) (λ e. each_at P ms h.1 k (omega (arith, some, times_elsewhere k m ms e)))

pub each_of_times : (P : ℕ → Type 0) (ns : List ℕ) → ((k : ℕ) → 1 ≤ times k ns → P k) → Each P ns
each_of_times P [] h = tt
each_of_times P (m ∷ ms) h = (
  h m (omega (arith, times_here m m ms (eq-eqb m m refl))),
  each_of_times P ms (λ k some. by_test (m == k) (λ e. h k (omega (arith, times_here k m ms e))) (λ e. h k (omega (arith, some, times_elsewhere k m ms e)))),
)

-- it holds of those of another list, too, in which each stands as often
pub each_counted : (P : ℕ → Type 0) (ns ms : List ℕ) → ((k : ℕ) → times k ms ≡ times k ns) → Each P ns → Each P ms
each_counted P ns ms same h = each_of_times P ms (λ k some. each_at P ns h k (omega (arith, some, same k)))

pub each_both : (P : ℕ → Type 0) (xs ys : List ℕ) → Each P xs → Each P ys → Each P (xs ++ ys)
each_both P [] ys h k = k
each_both P (x ∷ xs) ys h k = (h.0, each_both P xs ys h.1 k)

pub each_parts : (P : ℕ → Type 0) (xs ys : List ℕ) → Each P (xs ++ ys) → Each P xs × Each P ys
each_parts P [] ys h = (tt, h)
each_parts P (x ∷ xs) ys h = let k = each_parts P xs ys h.1 in ((h.0, k.0), k.1)
