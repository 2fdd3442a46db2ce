-- The codes of classes.
use Rattle.std.proofs.Common.{◌≡◌, ◌≢◌, ◌⊎◌, inl, inr, ℕ, zero, suc, ◌<◌, ◌≤◌, Bool, true, false, List, [], ◌∷◌, refl, sym, ap, ◌∙◌, subst, if◌then◌else◌, arith}
use Rattle.std.specs.Prelude.{slice_get, Option, None, Some, nat_lt, ◌==◌}
use Rattle.std.proofs.lemmas.Bool.{ltb-true, ltb-false, eqb-true, eqb-false}
use Rattle.vs_design.specs.Designs.{Process, Design}
use Rattle.vs_vcd.specs.Shared.{join_of, IsAlike, Itself, Joined, Back, Along, merged, with_join, code_by, class_code}
use Rattle.vs_vcd.proofs.Grouping.{by_bool}

-- ---- two codes become one

merged-low : (a b c : ℕ) → nat_lt a b ≡ true → (c == b) ≡ true → merged a b c ≡ a
merged-low a b c p q = ap (λ (t : Bool). if t then (if c == b then a else c) else (if c == a then b else c)) p ∙ ap (λ (t : Bool). if t then a else c) q

merged-low-other : (a b c : ℕ) → nat_lt a b ≡ true → (c == b) ≡ false → merged a b c ≡ c
merged-low-other a b c p q = ap (λ (t : Bool). if t then (if c == b then a else c) else (if c == a then b else c)) p ∙ ap (λ (t : Bool). if t then a else c) q

merged-high : (a b c : ℕ) → nat_lt a b ≡ false → (c == a) ≡ true → merged a b c ≡ b
merged-high a b c p q = ap (λ (t : Bool). if t then (if c == b then a else c) else (if c == a then b else c)) p ∙ ap (λ (t : Bool). if t then b else c) q

merged-high-other : (a b c : ℕ) → nat_lt a b ≡ false → (c == a) ≡ false → merged a b c ≡ c
merged-high-other a b c p q = ap (λ (t : Bool). if t then (if c == b then a else c) else (if c == a then b else c)) p ∙ ap (λ (t : Bool). if t then b else c) q

-- what c becomes: the less, where it is the greater, or itself
pub record IsMerged (a b c r : ℕ) : Type 0 where
  pub low : a < b → c ≡ b → r ≡ a
  pub high : b ≤ a → c ≡ a → r ≡ b
  pub low_other : a < b → c ≢ b → r ≡ c
  pub high_other : b ≤ a → c ≢ a → r ≡ c

pub merged-is : (a b c : ℕ) → IsMerged a b c (merged a b c)
merged-is a b c =
    by_bool (IsMerged a b c (merged a b c)) (nat_lt a b)
    (λ p. let below : a < b = ltb-true a b p in
    by_bool (IsMerged a b c (merged a b c)) (c == b)
    (λ q. let is : c ≡ b = eqb-true c b q in record { low = λ _ _. merged-low a b c p q; high = λ h _. absurd (omega arith); low_other = λ _ n. absurd (n is); high_other = λ h _. absurd (omega arith) })
    (λ q. let not_is : c ≢ b = eqb-false c b q in record { low = λ _ e. absurd (not_is e); high = λ h _. absurd (omega arith); low_other = λ _ _. merged-low-other a b c p q; high_other = λ h _. absurd (omega arith) }))
    (λ p. let above : b ≤ a = ltb-false a b p in
    by_bool (IsMerged a b c (merged a b c)) (c == a)
    (λ q. let is : c ≡ a = eqb-true c a q in record { low = λ h _. absurd (omega arith); high = λ _ _. merged-high a b c p q; low_other = λ h _. absurd (omega arith); high_other = λ _ n. absurd (n is) })
    (λ q. let not_is : c ≢ a = eqb-false c a q in record { low = λ h _. absurd (omega arith); high = λ _ e. absurd (not_is e); low_other = λ h _. absurd (omega arith); high_other = λ _ _. merged-high-other a b c p q }))

-- which of them it becomes
pub merged_cases : (a b c : ℕ) → ((merged a b c ≡ a) × (a < b)) ⊎ (((merged a b c ≡ b) × (b ≤ a)) ⊎ (merged a b c ≡ c))
merged_cases a b c =
    by_bool (((merged a b c ≡ a) × (a < b)) ⊎ (((merged a b c ≡ b) × (b ≤ a)) ⊎ (merged a b c ≡ c))) (nat_lt a b)
    (λ p. by_bool (((merged a b c ≡ a) × (a < b)) ⊎ (((merged a b c ≡ b) × (b ≤ a)) ⊎ (merged a b c ≡ c))) (c == b)
    (λ q. inl (merged-low a b c p q, ltb-true a b p))
    (λ q. inr (inr (merged-low-other a b c p q))))
    (λ p. by_bool (((merged a b c ≡ a) × (a < b)) ⊎ (((merged a b c ≡ b) × (b ≤ a)) ⊎ (merged a b c ≡ c))) (c == a)
    (λ q. inr (inl (merged-high a b c p q, ltb-false a b p)))
    (λ q. inr (inr (merged-high-other a b c p q))))

-- it is never greater
pub merged_below : (a b c : ℕ) → merged a b c ≤ c
merged_below a b c =
    by_bool (merged a b c ≤ c) (nat_lt a b)
    (λ p. by_bool (merged a b c ≤ c) (c == b)
    (λ q. let is : c ≡ b = eqb-true c b q in let below : a < b = ltb-true a b p in omega (arith, merged-low a b c p q))
    (λ q. omega (arith, merged-low-other a b c p q)))
    (λ p. by_bool (merged a b c ≤ c) (c == a)
    (λ q. let is : c ≡ a = eqb-true c a q in let above : b ≤ a = ltb-false a b p in omega (arith, merged-high a b c p q))
    (λ q. omega (arith, merged-high-other a b c p q)))

-- both become the less of them
pub merged_both : (a b : ℕ) → merged a b a ≡ merged a b b
merged_both a b =
    let x = merged-is a b a in
    let y = merged-is a b b in
    by_bool (merged a b a ≡ merged a b b) (nat_lt a b)
    (λ p. let below : a < b = ltb-true a b p in x.low_other below (λ e. omega arith) ∙ sym (y.low below refl))
    (λ p. let above : b ≤ a = ltb-false a b p in
    by_bool (merged a b a ≡ merged a b b) (a == b)
    (λ q. ap (merged a b) (eqb-true a b q))
    (λ q. let differ : a ≢ b = eqb-false a b q in x.high above refl ∙ sym (y.high_other above (λ e. differ (sym e)))))

-- the less stays
pub merged_least : (a b : ℕ) → (a < b → merged a b a ≡ a) × (b ≤ a → merged a b b ≡ b)
merged_least a b = (
  λ h. (merged-is a b a).low_other h (λ e. omega arith),
  λ h. by_bool (merged a b b ≡ b) (b == a)
      (λ q. (merged-is a b b).high h (eqb-true b a q))
      (λ q. (merged-is a b b).high_other h (eqb-false b a q)),
)

-- ---- codes

-- a code is that of an earlier signal, which is its own
pub record IsCoding (code : ℕ → ℕ) : Type 0 where
  pub below : (n : ℕ) → code n ≤ n
  pub fixed : (n : ℕ) → code (code n) ≡ code n

joined_fixed : (code : ℕ → ℕ) → IsCoding code → (m n k : ℕ) → merged (code m) (code n) (code (merged (code m) (code n) (code k))) ≡ merged (code m) (code n) (code k)
joined_fixed code h m n k = of (merged_cases (code m) (code n) (code k))
  where
    of : ((merged (code m) (code n) (code k) ≡ code m) × (code m < code n)) ⊎ (((merged (code m) (code n) (code k) ≡ code n) × (code n ≤ code m)) ⊎ (merged (code m) (code n) (code k) ≡ code k))
        → merged (code m) (code n) (code (merged (code m) (code n) (code k))) ≡ merged (code m) (code n) (code k)
    of (inl w) = ap (λ (r : ℕ). merged (code m) (code n) (code r)) w.0 ∙ ap (merged (code m) (code n)) (h.fixed m) ∙ (merged_least (code m) (code n)).0 w.1 ∙ sym w.0
    of (inr (inl w)) = ap (λ (r : ℕ). merged (code m) (code n) (code r)) w.0 ∙ ap (merged (code m) (code n)) (h.fixed n) ∙ (merged_least (code m) (code n)).1 w.1 ∙ sym w.0
    of (inr (inr w)) = ap (λ (r : ℕ). merged (code m) (code n) (code r)) w ∙ ap (merged (code m) (code n)) (h.fixed k)

pub join_coding : (o : Option (ℕ × ℕ)) (code : ℕ → ℕ) → IsCoding code → IsCoding (with_join o code)
join_coding None code h = record { below = h.below; fixed = h.fixed }
join_coding (Some (m, n)) code h = record {
  below = λ k. let le = h.below k in omega (arith, merged_below (code m) (code n) (code k));
  fixed = joined_fixed code h m n;
}

-- one process more
pub code_by-more : (p : Process) (ps : List Process) (n : ℕ) → code_by (p ∷ ps) n ≡ with_join (join_of p) (code_by ps) n
unfolding code_by
code_by-more p ps n = refl

pub code_by-none : (n : ℕ) → code_by [] n ≡ n
unfolding code_by
code_by-none n = refl

pub coding : (ps : List Process) → IsCoding (code_by ps)
unfolding code_by
coding [] = record { below = λ n. omega arith; fixed = λ n. refl }
coding (p ∷ ps) = let h = join_coding (join_of p) (code_by ps) (coding ps) in record { below = h.below; fixed = h.fixed }

-- ---- of one class

-- what these processes join is of one class
abbrev pub AllAlike : Design → List Process → Type 0
AllAlike d ps = (p : ℕ) (process : Process) (m n : ℕ) → slice_get ps p ≡ Some process → join_of process ≡ Some (m, n) → IsAlike d m n

join_alike : (d : Design) (o : Option (ℕ × ℕ)) (code : ℕ → ℕ) → ((m n : ℕ) → o ≡ Some (m, n) → IsAlike d m n) → ((n : ℕ) → IsAlike d n (code n)) → (n : ℕ) → IsAlike d n (with_join o code n)
join_alike d None code joins alike k = alike k
join_alike d (Some (m, n)) code joins alike k =
    let a : ℕ = code m in
    let b : ℕ = code n in
    let c : ℕ = code k in
    -- from one to the other
    let across : IsAlike d a b = Along a m b (Back m a (alike m)) (Along m n b (joins m n refl) (alike n)) in
    let P : ℕ → Type 0 = λ r. IsAlike d k r in
    by_bool (P (merged a b c)) (nat_lt a b)
    (λ p. by_bool (P (merged a b c)) (c == b)
    (λ q. subst P (sym (merged-low a b c p q)) (Along k b a (subst P (eqb-true c b q) (alike k)) (Back a b across)))
    (λ q. subst P (sym (merged-low-other a b c p q)) (alike k)))
    (λ p. by_bool (P (merged a b c)) (c == a)
    (λ q. subst P (sym (merged-high a b c p q)) (Along k a b (subst P (eqb-true c a q) (alike k)) across))
    (λ q. subst P (sym (merged-high-other a b c p q)) (alike k)))

alike_by : (d : Design) (ps : List Process) → AllAlike d ps → (n : ℕ) → IsAlike d n (code_by ps n)
unfolding code_by
alike_by d [] all n = Itself n
alike_by d (p ∷ ps) all n = join_alike d (join_of p) (code_by ps) (λ m k e. all 0 p m k refl e) (alike_by d ps (λ i process m k at e. all (suc i) process m k at e)) n

-- a signal is of one class with that of its code
pub alike_code : (d : Design) (n : ℕ) → IsAlike d n (class_code d n)
alike_code d n = alike_by d d.processes (λ p process m k at e. Joined p process m k at e) n

-- equal codes stay equal
still_equal : (o : Option (ℕ × ℕ)) (code : ℕ → ℕ) (m n : ℕ) → code m ≡ code n → with_join o code m ≡ with_join o code n
still_equal None code m n e = e
still_equal (Some (a, b)) code m n e = ap (merged (code a) (code b)) e

joined_equal : (o : Option (ℕ × ℕ)) (code : ℕ → ℕ) (m n : ℕ) → o ≡ Some (m, n) → with_join o code m ≡ with_join o code n
joined_equal o code m n e = ap (λ (x : Option (ℕ × ℕ)). with_join x code m) e ∙ merged_both (code m) (code n) ∙ sym (ap (λ (x : Option (ℕ × ℕ)). with_join x code n) e)

equal_by : (ps : List Process) (p : ℕ) (process : Process) (m n : ℕ) → slice_get ps p ≡ Some process → join_of process ≡ Some (m, n) → code_by ps m ≡ code_by ps n
unfolding code_by
equal_by [] p process m n at e = absurd (none at)
  where
    none : None ≡ Some process → ⊥
    none h = cc
equal_by (q ∷ ps) zero process m n at e = joined_equal (join_of q) (code_by ps) m n (ap join_of (same q process at) ∙ e)
  where
    same : (x y : Process) → Some x ≡ Some y → x ≡ y
    same x y h = cc
equal_by (q ∷ ps) (suc p) process m n at e = still_equal (join_of q) (code_by ps) m n (equal_by ps p process m n at e)

-- signals of one class have one code
pub equal_codes : (d : Design) (m n : ℕ) → IsAlike d m n → class_code d m ≡ class_code d n
equal_codes d m n (Itself k) = refl
equal_codes d m n (Joined p process a b at e) = equal_by d.processes p process a b at e
equal_codes d m n (Back a b h) = sym (equal_codes d a b h)
equal_codes d m n (Along a b c h k) = equal_codes d a b h ∙ equal_codes d b c k

-- what holds of a signal, and of all that are joined, holds of its code
join_has : (P : ℕ → Type 0) (o : Option (ℕ × ℕ)) (code : ℕ → ℕ) → ((m n : ℕ) → o ≡ Some (m, n) → P m × P n) → ((n : ℕ) → P n → P (code n)) → (n : ℕ) → P n → P (with_join o code n)
join_has P None code joins has k h = has k h
join_has P (Some (m, n)) code joins has k h = of (merged_cases (code m) (code n) (code k))
  where
    of : ((merged (code m) (code n) (code k) ≡ code m) × (code m < code n)) ⊎ (((merged (code m) (code n) (code k) ≡ code n) × (code n ≤ code m)) ⊎ (merged (code m) (code n) (code k) ≡ code k)) → P (merged (code m) (code n) (code k))
    of (inl w) = subst P (sym w.0) (has m (joins m n refl).0)
    of (inr (inl w)) = subst P (sym w.0) (has n (joins m n refl).1)
    of (inr (inr w)) = subst P (sym w) (has k h)

pub code_has : (P : ℕ → Type 0) (ps : List Process) → ((p : ℕ) (process : Process) (m n : ℕ) → slice_get ps p ≡ Some process → join_of process ≡ Some (m, n) → P m × P n) → (n : ℕ) → P n → P (code_by ps n)
unfolding code_by
code_has P [] joins n h = h
code_has P (p ∷ ps) joins n h = join_has P (join_of p) (code_by ps) (λ m k e. joins 0 p m k refl e) (code_has P ps (λ i process m k at e. joins (suc i) process m k at e)) n h

-- where nothing is joined each signal has its own code
pub code_own : (ps : List Process) → ((p : ℕ) (process : Process) → slice_get ps p ≡ Some process → join_of process ≡ None) → (n : ℕ) → code_by ps n ≡ n
unfolding code_by
code_own [] none n = refl
code_own (p ∷ ps) none n = ap (λ (o : Option (ℕ × ℕ)). with_join o (code_by ps) n) (none 0 p refl) ∙ code_own ps (λ i process at. none (suc i) process at) n
