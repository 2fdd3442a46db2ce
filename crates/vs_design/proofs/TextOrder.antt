-- The processes in the order of the text: each of both kinds is among them once.
use Rattle.std.proofs.Common.{◌≡◌, ℕ, suc, ◌+◌, ◌≤◌, Bool, true, false, List, [], ◌∷◌, ◌++◌, ◌&&◌, ◌==◌, eqb-true, eq-eqb, if◌then◌else◌, refl, ap, ◌∙◌, subst, length, arith}
use Rattle.std.specs.Prelude.{nat_le}
use Rattle.std.specs.List.{list_all}
use Rattle.vs_design.specs.Designs.{Process, Initial, Design, AnyProcess, OfProcess, OfInitial, standing, text_from, in_text_order}
use Rattle.vs_design.specs.Elaborated.{are_behind, IsLawfulDesign}
use Rattle.vs_design.proofs.Lists.{by_test, and_both}

-- ---- sums

-- one value for a process and another for an initial process
abbrev pub by_sort : {A : Type 0} → (Process → A) → (Initial → A) → AnyProcess → A
by_sort f g (OfProcess p process) = f process
by_sort f g (OfInitial k i) = g i

abbrev pub total : {A : Type 0} → (A → ℕ) → List A → ℕ
total f [] = 0
total f (x ∷ xs) = f x + total f xs

total_append : {A : Type 0} (f : A → ℕ) (xs ys : List A) → total f (xs ++ ys) ≡ total f xs + total f ys
total_append f [] ys = omega arith
total_append f (x ∷ xs) ys = let h = total_append f xs ys in omega (arith, h)

module _ (f : Process → ℕ) (g : Initial → ℕ) where
  -- those behind so many processes
  abbrev there : ℕ → Initial → ℕ
  there p i = if i.behind == p then g i else 0

  standing_total : (p k : ℕ) (is : List Initial) → total (by_sort f g) (standing p k is) ≡ total (there p) is
  standing_total p k [] = refl
  standing_total p k (i ∷ is) =
      total_append (by_sort f g) (if i.behind == p then (OfInitial k i ∷ []) else []) (standing p (suc k) is)
      ∙ ap (λ n. n + total (by_sort f g) (standing p (suc k) is)) (one (i.behind == p))
      ∙ ap (λ n. there p i + n) (standing_total p (suc k) is)
    where
      one : (c : Bool) → total (by_sort f g) (if c then (OfInitial k i ∷ []) else []) ≡ (if c then g i else 0)
      one true = omega arith
      one false = refl

  -- those behind p processes, behind one more, and so on
  abbrev placed : ℕ → List Process → List Initial → ℕ
  placed p [] is = total (there p) is
  placed p (x ∷ ps) is = total (there p) is + placed (suc p) ps is

  text_placed : (p : ℕ) (ps : List Process) (is : List Initial) → total (by_sort f g) (text_from p ps is) ≡ total f ps + placed p ps is
  text_placed p [] is = let h = standing_total p 0 is in omega (arith, h)
  text_placed p (x ∷ ps) is =
      let a = total_append (by_sort f g) (standing p 0 is) (OfProcess p x ∷ text_from (suc p) ps is) in
      let b = standing_total p 0 is in
      let c = text_placed (suc p) ps is in omega (arith, a, b, c)

  -- one initial process is counted where it stands
  abbrev placed_one : ℕ → List Process → Initial → ℕ
  placed_one p [] i = there p i
  placed_one p (x ∷ ps) i = there p i + placed_one (suc p) ps i

  placed_cons : (p : ℕ) (ps : List Process) (i : Initial) (is : List Initial) → placed p ps (i ∷ is) ≡ placed_one p ps i + placed p ps is
  placed_cons p [] i is = refl
  placed_cons p (x ∷ ps) i is = let h = placed_cons (suc p) ps i is in omega (arith, h)

  placed_none : (p : ℕ) (ps : List Process) → placed p ps [] ≡ 0
  placed_none p [] = refl
  placed_none p (x ∷ ps) = let h = placed_none (suc p) ps in omega (arith, h)

  not_there : (p : ℕ) (i : Initial) → (i.behind == p) ≡ false → there p i ≡ 0
  not_there p i e = rw e refl

  is_there : (p : ℕ) (i : Initial) → (i.behind == p) ≡ true → there p i ≡ g i
  is_there p i e = rw e refl

  apart : (m n : ℕ) → suc m ≤ n → (m == n) ≡ false
  apart m n h = by_test (m == n) (λ e. let k = eqb-true m n e in absurd (omega (arith, h, k))) (λ e. e)

  before_all : (p : ℕ) (ps : List Process) (i : Initial) → suc i.behind ≤ p → placed_one p ps i ≡ 0
  before_all p [] i h = not_there p i (apart i.behind p h)
  before_all p (x ∷ ps) i h = let a = not_there p i (apart i.behind p h) in let b = before_all (suc p) ps i (omega (arith, h)) in omega (arith, a, b)

  among : (p : ℕ) (ps : List Process) (i : Initial) → p ≤ i.behind → i.behind ≤ p + length ps → placed_one p ps i ≡ g i
  among p [] i l h = is_there p i (eq-eqb i.behind p (omega (arith, l, h)))
  among p (x ∷ ps) i l h =
      by_test (i.behind == p)
      (λ e. let k = eqb-true i.behind p e in let a = is_there p i e in let b = before_all (suc p) ps i (omega (arith, k)) in omega (arith, a, b))
      (λ e. let a = not_there p i e in let b = among (suc p) ps i (above (i.behind) p l e) (omega (arith, h)) in omega (arith, a, b))
    where
      above : (m p : ℕ) → p ≤ m → (m == p) ≡ false → suc p ≤ m
      above m p l e = grind arith

  low : (m n : ℕ) → nat_le m n ≡ true → m ≤ n
  low m n h = grind arith

  all_placed : (p first : ℕ) (ps : List Process) (is : List Initial) → p ≤ first → are_behind first (p + length ps) is ≡ true → placed p ps is ≡ total g is
  all_placed p first ps [] l h = placed_none p ps
  all_placed p first ps (i ∷ is) l h =
      let a = and_both (nat_le first i.behind && nat_le i.behind (p + length ps)) (are_behind i.behind (p + length ps) is) h in
      let b = and_both (nat_le first i.behind) (nat_le i.behind (p + length ps)) a.0 in
      let m = low first i.behind b.0 in
      let n = low i.behind (p + length ps) b.1 in
      placed_cons p ps i is ∙ ap (λ k. k + placed p ps is) (among p ps i (omega (arith, l, m)) n) ∙ ap (λ k. g i + k) (all_placed p i.behind ps is (omega (arith, l, m)) a.1)

  pub text_total : (d : Design) → IsLawfulDesign d → total (by_sort f g) (in_text_order d) ≡ total f d.processes + total g d.initials
  text_total d l = text_placed 0 d.processes d.initials ∙ ap (λ n. total f d.processes + n) (all_placed 0 0 d.processes d.initials (omega arith) (subst (λ n. are_behind 0 n d.initials ≡ true) (omega arith) l.behind))

-- ---- tests

-- how many don't pass
abbrev fails : {A : Type 0} → (A → Bool) → A → ℕ
fails test x = if test x then 0 else 1

none_fails : {A : Type 0} (test : A → Bool) (xs : List A) → list_all test xs ≡ true → total (fails test) xs ≡ 0
none_fails test [] h = refl
none_fails test (x ∷ xs) h = let k = and_both (test x) (list_all test xs) h in let r = none_fails test xs k.1 in rw k.0 (omega (arith, r))

all_pass : {A : Type 0} (test : A → Bool) (xs : List A) → total (fails test) xs ≡ 0 → list_all test xs ≡ true
all_pass test [] h = refl
all_pass test (x ∷ xs) h =
    by_test (test x)
    (λ e. rw e (all_pass test xs (omega (arith, h))))
    (λ e. absurd (let k : fails test x ≡ 1 = failed e in omega (arith, h, k)))
  where
    failed : test x ≡ false → fails test x ≡ 1
    failed e = rw e refl

same_fails : (f : Process → Bool) (g : Initial → Bool) (xs : List AnyProcess) → total (fails (by_sort f g)) xs ≡ total (by_sort (fails f) (fails g)) xs
same_fails f g [] = refl
same_fails f g (OfProcess p x ∷ xs) = ap (λ n. fails f x + n) (same_fails f g xs)
same_fails f g (OfInitial k i ∷ xs) = ap (λ n. fails g i + n) (same_fails f g xs)

-- all of them pass exactly where all of each kind do
pub pass_in_text : (d : Design) → IsLawfulDesign d → (f : Process → Bool) (g : Initial → Bool) → list_all f d.processes ≡ true → list_all g d.initials ≡ true → list_all (by_sort f g) (in_text_order d) ≡ true
pass_in_text d l f g h k =
    let a = same_fails f g (in_text_order d) in
    let b = text_total (fails f) (fails g) d l in
    let m = none_fails f d.processes h in
    let n = none_fails g d.initials k in
    all_pass (by_sort f g) (in_text_order d) (omega (arith, a, b, m, n))

pub processes_pass : (d : Design) → IsLawfulDesign d → (f : Process → Bool) (g : Initial → Bool) → list_all (by_sort f g) (in_text_order d) ≡ true → list_all f d.processes ≡ true
processes_pass d l f g h =
    let a = same_fails f g (in_text_order d) in
    let b = text_total (fails f) (fails g) d l in
    let m = none_fails (by_sort f g) (in_text_order d) h in
    all_pass f d.processes (omega (arith, a, b, m))

pub initials_pass : (d : Design) → IsLawfulDesign d → (f : Process → Bool) (g : Initial → Bool) → list_all (by_sort f g) (in_text_order d) ≡ true → list_all g d.initials ≡ true
initials_pass d l f g h =
    let a = same_fails f g (in_text_order d) in
    let b = text_total (fails f) (fails g) d l in
    let m = none_fails (by_sort f g) (in_text_order d) h in
    all_pass g d.initials (omega (arith, a, b, m))
