-- How often a bit is in a list, and how the drivers of bits grow.
use Rattle.std.proofs.Common.{◌≡◌, ℕ, zero, suc, ◌+◌, ◌<◌, Bool, true, false, List, [], ◌∷◌, ◌++◌, ◌||◌, ◌==◌, if◌then◌else◌, refl, sym, ap, ◌∙◌, subst, eqb-true, eq-eqb, get_or, set, take, length, replicate, arith, Some, ◌≢◌, get_or-set_same, get_or-set_other, append_assoc, add-one, zero-add, add-zero}
use Rattle.std.specs.Prelude.{slice_get}
use Rattle.std.specs.List.Sorted.{IsStrictlyIncreasing}
use Rattle.std.proofs.lemmas.List.{take_more, replicate-append-replicate}
use Rattle.vs_design.specs.Statements.{Statement}
use Rattle.vs_design.specs.Designs.{Process, Always, Event, Design}
use Rattle.vs_design.specs.Footprints.{contains, statement_bits}
use Rattle.vs_design.specs.Rules.{times, driver, drivers_from}
use Rattle.vs_driver.specs.declared.drivers.Drivers.{Drivers}
use Rattle.vs_driver.specs.Drivers.{first_two, drivers_at, AreDrivers}
use Rattle.vs_reads.proofs.Tests.{by_test, either_way, place_of}

pub same_other : (q p : ℕ) → (q == p) ≡ false → q ≡ p → ⊥
same_other q p h e = either_way (q == p) (subst (λ m. (q == m) ≡ true) e (eq-eqb q q refl)) h

-- ---- how often

pub times-append : (b : ℕ) (xs ys : List ℕ) → times b (xs ++ ys) ≡ times b xs + times b ys
times-append b [] ys = sym (zero-add (times b ys))
times-append b (x ∷ xs) ys = by_test (b == x) (λ e. rw e (ap suc (times-append b xs ys) ∙ grown (times b xs) (times b ys))) (λ e. rw e (times-append b xs ys))
  where
    grown : (m n : ℕ) → suc (m + n) ≡ suc m + n
    grown m n = omega arith

-- a bit that isn't there
times_none : (b : ℕ) (xs : List ℕ) → contains xs b ≡ false → times b xs ≡ 0
times_none b [] h = refl
times_none b (x ∷ xs) h = go (b == x) (contains xs b) h (times_none b xs)
  where
    go : (s c : Bool) → (s || c) ≡ false → (c ≡ false → times b xs ≡ 0) → (if s then suc (times b xs) else times b xs) ≡ 0
    go true c h f = cc
    go false c h f = f h

rising_above : (x : ℕ) (xs : List ℕ) → IsStrictlyIncreasing (x ∷ xs) → (k : ℕ) → k < length xs → x < get_or xs k 0
rising_above x xs h zero l = h zero (omega (arith, l))
rising_above x xs h (suc k) l =
    let a = rising_above x xs h k (omega (arith, l)) in
    let b : get_or xs k 0 < get_or (x ∷ xs) (suc k + 1) 0 = h (suc k) (omega (arith, l)) in
    let c : get_or (x ∷ xs) (suc k + 1) 0 ≡ get_or xs (suc k) 0 = ap {B = ℕ} (λ n. get_or (x ∷ xs) n 0) (add-one (suc k)) in
    omega (arith, a, b, c)

rising_rest : (x : ℕ) (xs : List ℕ) → IsStrictlyIncreasing (x ∷ xs) → IsStrictlyIncreasing xs
rising_rest x xs h k l =
    let b : get_or (x ∷ xs) (suc k) 0 < get_or (x ∷ xs) (suc k + 1) 0 = h (suc k) (omega (arith, l)) in
    let c : get_or (x ∷ xs) (suc k + 1) 0 ≡ get_or xs (k + 1) 0 = ap {B = ℕ} (λ n. get_or (x ∷ xs) n 0) (add-one (suc k)) ∙ sym (ap {B = ℕ} (λ n. get_or xs n 0) (add-one k)) in
    subst (λ m. get_or xs k 0 < m) c b

-- in a rising list each bit is once
pub times_rising : (b : ℕ) (xs : List ℕ) → IsStrictlyIncreasing xs → times b xs ≡ (if contains xs b then 1 else 0)
times_rising b [] h = refl
times_rising b (x ∷ xs) h =
    by_test (b == x)
    (λ e. rw e (ap suc (times_none b xs (gone e))))
    (λ e. rw e (times_rising b xs (rising_rest x xs h)))
  where
    gone : (b == x) ≡ true → contains xs b ≡ false
    gone e = by_test (contains xs b) (λ c. let k = place_of xs b c in absurd (let l = rising_above x xs h k.0 k.1 in let m = eqb-true b x e in let n = k.2 in omega (arith, l, m, n))) (λ c. c)

-- ---- bits that are noted one after the other

abbrev pub AreNoted : List Drivers → List Drivers → List ℕ → ℕ → Type 0
AreNoted old new bits p = (b : ℕ) (ps : List ℕ) → b < length old → drivers_at old b ≡ first_two ps → drivers_at new b ≡ first_two (ps ++ replicate (times b bits) p)

pub append_nil : (ps : List ℕ) → ps ++ [] ≡ ps
append_nil [] = refl
append_nil (p ∷ ps) = ap {B = List ℕ} (λ zs. p ∷ zs) (append_nil ps)

pub none_noted : (old : List Drivers) (p : ℕ) → AreNoted old old [] p
none_noted old p b ps l e = e ∙ ap first_two (sym (append_nil ps))

pub one_noted : (old table new : List Drivers) (bits : List ℕ) (i p : ℕ) (r : Drivers) → length table ≡ length old → i < length bits → get_or bits i 0 < length table
    → new ≡ set table (get_or bits i 0) r → ((ps : List ℕ) → drivers_at table (get_or bits i 0) ≡ first_two ps → r ≡ first_two (ps ++ p ∷ []))
    → AreNoted old table (take i bits) p → AreNoted old new (take (i + 1) bits) p
one_noted old table new bits i p r c l m e w h b ps k f =
    ap {B = Drivers} (λ t. drivers_at t b) e
    ∙ by_test (b == bit)
    (λ s. ap {B = Drivers} (drivers_at (set table bit r)) (eqb-true b bit s) ∙ written ∙ w (ps ++ replicate (times b (take i bits)) p) (ap {B = Drivers} (drivers_at table) (sym (eqb-true b bit s)) ∙ h b ps k f) ∙ ap first_two (joined (times b (take i bits)) ∙ ap {B = List ℕ} (λ n. ps ++ replicate n p) (sym (more ∙ ap {B = ℕ} (λ t. times b (take i bits) + (if t then 1 else 0)) s))))
    (λ s. other s ∙ h b ps k f ∙ ap first_two (ap {B = List ℕ} (λ n. ps ++ replicate n p) (sym (more ∙ ap {B = ℕ} (λ t. times b (take i bits) + (if t then 1 else 0)) s ∙ add-zero (times b (take i bits))))))
  where
    bit : ℕ
    bit = get_or bits i 0

    written : drivers_at (set table bit r) bit ≡ r
    written = rw get_or-set_same refl

    other : (b == bit) ≡ false → drivers_at (set table bit r) b ≡ drivers_at table b
    other s = let ne : b ≢ bit = same_other b bit s in rw get_or-set_other refl

    more : times b (take (i + 1) bits) ≡ times b (take i bits) + (if b == bit then 1 else 0)
    more = ap {B = ℕ} (times b) (take_more bits i 0 l) ∙ times-append b (take i bits) (bit ∷ [])

    joined : (n : ℕ) → (ps ++ replicate n p) ++ p ∷ [] ≡ ps ++ replicate (n + 1) p
    joined n = append_assoc ps (replicate n p) (p ∷ []) ∙ ap {B = List ℕ} (λ zs. ps ++ zs) (replicate-append-replicate n 1 p)

-- ---- one process more

drivers_more : (k : ℕ) (ps : List Process) (p : ℕ) (x : Process) (b : ℕ) → slice_get ps p ≡ Some x → drivers_from k (take (suc p) ps) b ≡ drivers_from k (take p ps) b ++ driver (k + p) x b
drivers_more k [] p x b h = cc
drivers_more k (y ∷ ps) zero x b h = append_nil (driver k y b) ∙ subst (λ (z : Process). driver k y b ≡ driver (k + 0) z b) (same_some y x h) (ap {B = List ℕ} (λ n. driver n y b) (sym (add-zero k)))
  where
    same_some : (y x : Process) → Some y ≡ Some x → y ≡ x
    same_some y x e = cc
drivers_more k (y ∷ ps) (suc p) x b h =
    ap {B = List ℕ} (λ zs. driver k y b ++ zs) (drivers_more (suc k) ps p x b h)
    ∙ sym (append_assoc (driver k y b) (drivers_from (suc k) (take p ps) b) (driver (suc k + p) x b))
    ∙ ap {B = List ℕ} (λ n. (driver k y b ++ drivers_from (suc k) (take p ps) b) ++ driver n x b) (turned k p)
  where
    turned : (k p : ℕ) → suc k + p ≡ k + suc p
    turned k p = omega arith

pub drivers_one_more : (d : Design) (p : ℕ) (x : Process) (b : ℕ) → slice_get d.processes p ≡ Some x → drivers_from 0 (take (p + 1) d.processes) b ≡ drivers_from 0 (take p d.processes) b ++ driver p x b
drivers_one_more d p x b h = ap {B = List ℕ} (λ n. drivers_from 0 (take n d.processes) b) (add-one p) ∙ drivers_more 0 d.processes p x b h ∙ ap {B = List ℕ} (λ n. drivers_from 0 (take p d.processes) b ++ driver n x b) (zero-add p)

-- bits that are those of the process
pub process_noted : (d : Design) (p : ℕ) (x : Process) (old new : List Drivers) (bits : List ℕ) → length new ≡ length old → slice_get d.processes p ≡ Some x → ((b : ℕ) → driver p x b ≡ replicate (times b bits) p)
    → AreNoted old new bits p → AreDrivers d p old → AreDrivers d (p + 1) new
process_noted d p x old new bits c e f n h b l =
    let k : b < length old = subst (λ m. b < m) c l in
    n b (drivers_from 0 (take p d.processes) b) k (h b k) ∙ ap first_two (sym (drivers_one_more d p x b e ∙ ap {B = List ℕ} (λ zs. drivers_from 0 (take p d.processes) b ++ zs) (f b)))

-- a block drives each of its bits once
pub block_driver : (p place : ℕ) (star : Bool) (events : List Event) (st : Statement) (bits : List ℕ) → IsStrictlyIncreasing bits → ((b : ℕ) → contains bits b ≡ contains (statement_bits st) b) → (b : ℕ) → driver p (Always place star events st) b ≡ replicate (times b bits) p
block_driver p place star events st bits r s b = go (contains (statement_bits st) b) (contains bits b) (s b) ∙ ap {B = List ℕ} (λ n. replicate n p) (sym (times_rising b bits r))
  where
    go : (a c : Bool) → c ≡ a → (if a then (p ∷ []) else []) ≡ replicate (if c then 1 else 0) p
    go true true e = refl
    go true false e = cc
    go false true e = cc
    go false false e = refl
