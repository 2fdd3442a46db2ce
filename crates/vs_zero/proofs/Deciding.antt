-- The refusal of a design at time zero.
use Rattle.std.proofs.Common.{◌≡◌, ℕ, zero, suc, ◌+◌, ◌≤◌, ◌<◌, ◌≢◌, Bool, true, false, List, [], ◌∷◌, ◌==◌, refl, sym, ap, ap₂, ◌∙◌, subst, length, arith, Some, None, Option}
use Rattle.std.specs.Prelude.{slice_get}
use mathlib.Core.Path.{fun_ext}
use Rattle.std.proofs.lemmas.Option.{slice_get_within}
use Rattle.vs_design.specs.Designs.{Process, process_place, Design}
use Rattle.vs_design.specs.Equations.{IsOrderly}
use Rattle.vs_design.specs.Laws.{OneFamilies, OrderOrCycle}
use Rattle.vs_design.specs.Levels.{is_level_order, has_no_cycle, level_order}
use Rattle.vs_design.specs.Refusals.{otherwise, first_found, where_true, place_at, ZeroRefusal, TimeZero, zero_refusal_by, zero_refusal}
use Rattle.vs_design.specs.TimeZero.{Families, families, is_uncertain}
use Rattle.vs_clock.specs.Clocked.{Clocked, AreClocksOf}
use Rattle.vs_clock.specs.Tests.{IsFirst, NoneBefore}
use Rattle.vs_reads.proofs.Numbered.{place_is}
use Rattle.vs_sets.proofs.Families.{same_or_other}
use Rattle.std.proofs.Common.{inl, inr, ◌⊎◌}
use Rattle.vs_reads.proofs.Tests.{by_test}

process_same : (x y : Process) (o : Option Process) → o ≡ Some x → o ≡ Some y → x ≡ y
process_same x y o e f = some_same x y (sym e ∙ f)
  where
    some_same : (x y : Process) → Some x ≡ Some y → x ≡ y
    some_same x y e = cc

-- ---- one pair of families

both_same : (f g : Families) → f.early ≡ g.early → f.late ≡ g.late → f ≡ g
both_same f g e l = ap₂ (λ s t. let h : Families = record { early = s; late = t } in h) e l

order_found : OrderOrCycle → (d : Design) (order : List ℕ) → is_level_order d order ≡ true → is_level_order d (level_order d) ≡ true
order_found law d order h = by_test (has_no_cycle d) (λ e. e) (λ e. let c = (law d).found e in absurd ((law d).none order h c.0 c.1))

-- any level order gives the same families
pub one_families : OneFamilies → OrderOrCycle → (d : Design) → IsOrderly d → (clocks : List ℕ) (order : List ℕ) → is_level_order d order ≡ true → families d clocks order ≡ families d clocks (level_order d)
one_families law cycle d o clocks order h =
    let mine = law d o clocks order h in
    let theirs = law d o clocks (level_order d) (order_found cycle d order h) in
    let f = families d clocks order in
    let g = families d clocks (level_order d) in
    both_same f g (fun_ext (λ b. (mine.1 f g mine.0 theirs.0 b).0)) (fun_ext (λ b. (mine.1 f g mine.0 theirs.0 b).1))

-- ---- the first

pub none_more : (d : Design) (breaks : Process → Bool) (p : ℕ) (x : Process) → slice_get d.processes p ≡ Some x → false ≡ breaks x → NoneBefore d breaks p → NoneBefore d breaks (p + 1)
none_more d breaks p x e h n q y l f = at (same_or_other q p) where
  at : (((q == p) ≡ true) × (q ≡ p)) ⊎ (((q == p) ≡ false) × (q ≢ p)) → breaks y ≡ false
  at (inl s) = subst (λ (z : Process). breaks z ≡ false) (process_same x y (slice_get d.processes p) e (subst (λ m. slice_get d.processes m ≡ Some y) s.1 f)) (sym h)
  at (inr s) = let ne : q ≢ p = s.1 in n q y (omega (arith, l, ne)) f

pub first_is : (d : Design) (breaks : Process → Bool) (p : ℕ) (x : Process) → slice_get d.processes p ≡ Some x → true ≡ breaks x → NoneBefore d breaks p → IsFirst d breaks (Some p)
first_is d breaks p x e h n = (x, record { is = e; broken = sym h; before = n })

pub none_is : (d : Design) (breaks : Process → Bool) (p : ℕ) → length d.processes ≤ p → NoneBefore d breaks p → IsFirst d breaks None
none_is d breaks p l n q x e = n q x (let k = slice_get_within d.processes q x e in omega (arith, k, l)) e

-- ---- the refusal

abbrev found : (Process → Bool) → ℕ → List Process → Option ZeroRefusal
found breaks k ps = first_found (λ p process. where_true (breaks process) (TimeZero p (process_place process))) k ps

found_some : (breaks : Process → Bool) (k : ℕ) (ps : List Process) (p : ℕ) (x : Process) → slice_get ps p ≡ Some x → breaks x ≡ true → ((q : ℕ) (y : Process) → q < p → slice_get ps q ≡ Some y → breaks y ≡ false) → found breaks k ps ≡ Some (TimeZero (k + p) (process_place x))
found_some breaks k [] p x e b h = cc
found_some breaks k (y ∷ ps) zero x e b h =
    ap (λ t. otherwise (where_true t (TimeZero k (process_place y))) (found breaks (suc k) ps)) (subst (λ (z : Process). breaks z ≡ true) (sym (some_same y x e)) b)
    ∙ ap (λ n. Some (TimeZero n (process_place y))) (plus_zero k) ∙ ap (λ (z : Process). Some (TimeZero (k + 0) (process_place z))) (some_same y x e)
  where
    some_same : (x y : Process) → Some x ≡ Some y → x ≡ y
    some_same x y e = cc

    plus_zero : (k : ℕ) → k ≡ k + 0
    plus_zero k = omega arith
found_some breaks k (y ∷ ps) (suc p) x e b h =
    ap (λ t. otherwise (where_true t (TimeZero k (process_place y))) (found breaks (suc k) ps)) (h 0 y (omega arith) refl)
    ∙ found_some breaks (suc k) ps p x e b (λ q z l f. h (suc q) z (omega (arith, l)) f)
    ∙ ap (λ n. Some (TimeZero n (process_place x))) (turned k p)
  where
    turned : (k p : ℕ) → suc k + p ≡ k + suc p
    turned k p = omega arith

found_none : (breaks : Process → Bool) (k : ℕ) (ps : List Process) → ((q : ℕ) (y : Process) → slice_get ps q ≡ Some y → breaks y ≡ false) → found breaks k ps ≡ None
found_none breaks k [] h = refl
found_none breaks k (y ∷ ps) h =
    ap (λ t. otherwise (where_true t (TimeZero k (process_place y))) (found breaks (suc k) ps)) (h 0 y refl)
    ∙ found_none breaks (suc k) ps (λ q z f. h (suc q) z f)

pub refused : (d : Design) (names : List (List ℕ)) (c : Clocked) → AreClocksOf d names c → (p at : ℕ) → IsFirst d (is_uncertain d (families d c.bits (level_order d))) (Some p) → at ≡ place_at d.processes p → zero_refusal d names ≡ Some (TimeZero p at)
refused d names c i p at h e =
    ap (zero_refusal_by d) i.are
    ∙ ap (λ b. found (is_uncertain d (families d b (level_order d))) 0 d.processes) (sym i.bits_are)
    ∙ found_some (is_uncertain d (families d c.bits (level_order d))) 0 d.processes p h.0 h.1.is h.1.broken h.1.before
    ∙ ap (λ n. Some (TimeZero n (process_place h.0))) (zero_plus p)
    ∙ ap (λ n. Some (TimeZero p n)) (sym (place_is d.processes p h.0 h.1.is) ∙ sym e)
  where
    zero_plus : (p : ℕ) → 0 + p ≡ p
    zero_plus p = omega arith

pub none_refused : (d : Design) (names : List (List ℕ)) (c : Clocked) → AreClocksOf d names c → IsFirst d (is_uncertain d (families d c.bits (level_order d))) None → zero_refusal d names ≡ None
none_refused d names c i h =
    ap (zero_refusal_by d) i.are
    ∙ ap (λ b. found (is_uncertain d (families d b (level_order d))) 0 d.processes) (sym i.bits_are)
    ∙ found_none (is_uncertain d (families d c.bits (level_order d))) 0 d.processes h

pub first_there : (d : Design) (breaks : Process → Bool) (p : ℕ) → IsFirst d breaks (Some p) → p < length d.processes
first_there d breaks p h = slice_get_within d.processes p h.0 h.1.is
