-- The writers of a bit, and the refusal of two.
use Rattle.std.proofs.Common.{◌≡◌, ℕ, zero, suc, ◌+◌, ◌≤◌, Bool, true, false, List, [], ◌∷◌, ◌++◌, ◌||◌, ◌==◌, if◌then◌else◌, ◌⊎◌, inl, inr, refl, sym, ap, ◌∙◌, subst, length, replicate, get_or, arith, nat_lt, eqb-true, Option, Some, None}
use Rattle.std.specs.Prelude.{slice_get, option_and_then}
use Rattle.vs_design.specs.Designs.{Process, Continuous, Always, process_place, AnyProcess}
use Rattle.vs_design.specs.Footprints.{contains, target_bits, statement_bits, writes_of}
use Rattle.vs_design.specs.Rules.{times, driver, drivers_from, drivers, shared_bits, written_bits}
use Rattle.vs_design.specs.Cycles.{AreAtLeast}
use Rattle.vs_design.specs.Initials.{initial_bits, clashes, clashed_bits}
use Rattle.vs_design.specs.Refusals.{least, place_at, DriverRefusal, TwoDrivers, TwoWriters, writers, two_writers, driver_refusal_at}
use Rattle.vs_design.specs.RefusalLaws.{IsLeastOf, DriversAre, IsDriverRefusal, DriverRefusalIs}
use Rattle.vs_design.proofs.Lists.{by_test, and_both, or_left, or_right, or_false, contains-left, contains-right, contains_head, contains_filter}
use Rattle.vs_design.proofs.Writes.{either_way}
use Rattle.vs_design.proofs.Signals.{split}
use Rattle.vs_design.proofs.Drivers.{times_some}
use Rattle.vs_design.proofs.Least.{least_is}

-- ---- who they are

some_process : (x y : Process) → Some x ≡ Some y → x ≡ y
some_process x y e = cc

times_none : (b : ℕ) (xs : List ℕ) → contains xs b ≡ false → times b xs ≡ 0
times_none b [] h = refl
times_none b (x ∷ xs) h = by_test (b == x) (λ e. absurd (either_way ((b == x) || contains xs b) (or_left (b == x) (contains xs b) e) h)) (λ e. rw e (times_none b xs (subst (λ c. (c || contains xs b) ≡ false) e h)))

same_copies : (n p q : ℕ) → contains (replicate n p) q ≡ true → q ≡ p
same_copies zero p q h = cc
same_copies (suc n) p q h = by_test (q == p) (λ e. eqb-true q p e) (λ e. same_copies n p q (subst (λ c. (c || contains (replicate n p) q) ≡ true) e h))

some_copies : (n p : ℕ) → 1 ≤ n → contains (replicate n p) p ≡ true
some_copies zero p h = absurd (omega arith)
some_copies (suc n) p h = contains_head p (replicate n p)

driver_is : (k : ℕ) (x : Process) (b p : ℕ) → contains (driver k x b) p ≡ true → (p ≡ k) × (contains (writes_of x) b ≡ true)
driver_is k (Continuous place port target_place target e) b p h =
    (same_copies (times b (target_bits target)) k p h, by_test (contains (target_bits target) b) (λ t. t) (λ t. absurd (none (times_none b (target_bits target) t) h)))
  where
    none : times b (target_bits target) ≡ 0 → contains (replicate (times b (target_bits target)) k) p ≡ true → ⊥
    none e h = either_way false (subst (λ n. contains (replicate n k) p ≡ true) e h) refl
driver_is k (Always place star events st) b p h = by_test (contains (statement_bits st) b) (λ t. (only (subst (λ (c : Bool). contains (if c then (k ∷ []) else []) p ≡ true) t h), t)) (λ t. absurd (either_way false (subst (λ (c : Bool). contains (if c then (k ∷ []) else []) p ≡ true) t h) refl))
  where
    only : contains (k ∷ []) p ≡ true → p ≡ k
    only h = by_test (p == k) (λ e. eqb-true p k e) (λ e. absurd (either_way ((p == k) || false) h (or_false (p == k) false e refl)))

is_driver : (k : ℕ) (x : Process) (b : ℕ) → contains (writes_of x) b ≡ true → contains (driver k x b) k ≡ true
is_driver k (Continuous place port target_place target e) b h = some_copies (times b (target_bits target)) k (times_some b (target_bits target) h)
is_driver k (Always place star events st) b h = rw h (contains_head k [])

-- a process of the list that writes the bit, by number
record Writing (k : ℕ) (ps : List Process) (b p : ℕ) : Type 0 where
  pub index : ℕ
  pub process : Process
  pub number : p ≡ k + index
  pub is : slice_get ps index ≡ Some process
  pub writes_it : contains (writes_of process) b ≡ true

drivers_write : (k : ℕ) (ps : List Process) (b p : ℕ) → contains (drivers_from k ps b) p ≡ true → Writing k ps b p
drivers_write k [] b p h = cc
drivers_write k (x ∷ ps) b p h =
    split (driver k x b) (drivers_from (suc k) ps b) p h
    (λ q. let d = driver_is k x b p q in record { index = 0; process = x; number = let e = d.0 in omega (arith, e); is = refl; writes_it = d.1 })
    (λ q. let w = drivers_write (suc k) ps b p q in record { index = suc w.index; process = w.process; number = let e = w.number in omega (arith, e); is = w.is; writes_it = w.writes_it })

write_drivers : (k : ℕ) (ps : List Process) (b n : ℕ) (x : Process) → slice_get ps n ≡ Some x → contains (writes_of x) b ≡ true → contains (drivers_from k ps b) (k + n) ≡ true
write_drivers k [] b n x e h = cc
write_drivers k (y ∷ ps) b zero x e h = contains-left (driver k y b) (drivers_from (suc k) ps b) (k + 0) (subst (λ m. contains (driver k y b) m ≡ true) (omega arith) (is_driver k y b (subst (λ z. contains (writes_of z) b ≡ true) (sym (some_process y x e)) h)))
write_drivers k (y ∷ ps) b (suc n) x e h = contains-right (driver k y b) (drivers_from (suc k) ps b) (k + suc n) (subst (λ m. contains (drivers_from (suc k) ps b) m ≡ true) (omega arith) (write_drivers (suc k) ps b n x e h))

pub drivers_are : DriversAre
drivers_are d b p = (there, back)
  where
    there : contains (drivers d b) p ≡ true → (process : Process) × (slice_get d.processes p ≡ Some process) × (contains (writes_of process) b ≡ true)
    there h = let w = drivers_write 0 d.processes b p h in (w.process, subst (λ n. slice_get d.processes n ≡ Some w.process) (let e = w.number in omega (arith, e)) w.is, w.writes_it)

    back : (process : Process) × (slice_get d.processes p ≡ Some process) × (contains (writes_of process) b ≡ true) → contains (drivers d b) p ≡ true
    back w = subst (λ n. contains (drivers d b) n ≡ true) (omega arith) (write_drivers 0 d.processes b p w.0 w.1 w.2)

-- ---- in ascending order

abbrev AreSorted : List ℕ → Type 0
AreSorted [] = Unit {0}
AreSorted (x ∷ xs) = AreAtLeast x xs × AreSorted xs

lower_bound : (m n : ℕ) (xs : List ℕ) → m ≤ n → AreAtLeast n xs → AreAtLeast m xs
lower_bound m n [] l h = tt
lower_bound m n (x ∷ xs) l h = let a = h.0 in (omega (arith, a), lower_bound m n xs l h.1)

copies_sorted : (n k : ℕ) (xs : List ℕ) → AreAtLeast k xs → AreSorted xs → AreAtLeast k (replicate n k ++ xs) × AreSorted (replicate n k ++ xs)
copies_sorted zero k xs h s = (h, s)
copies_sorted (suc n) k xs h s = let r = copies_sorted n k xs h s in ((omega arith, r.0), (r.0, r.1))

driver_sorted : (k : ℕ) (x : Process) (b : ℕ) (xs : List ℕ) → AreAtLeast k xs → AreSorted xs → AreAtLeast k (driver k x b ++ xs) × AreSorted (driver k x b ++ xs)
driver_sorted k (Continuous place port target_place target e) b xs h s = copies_sorted (times b (target_bits target)) k xs h s
driver_sorted k (Always place star events st) b xs h s =
    by_test (contains (statement_bits st) b)
    (λ t. subst (λ (c : Bool). AreAtLeast k ((if c then (k ∷ []) else []) ++ xs) × AreSorted ((if c then (k ∷ []) else []) ++ xs)) (sym t) ((omega arith, h), (h, s)))
    (λ t. subst (λ (c : Bool). AreAtLeast k ((if c then (k ∷ []) else []) ++ xs) × AreSorted ((if c then (k ∷ []) else []) ++ xs)) (sym t) (h, s))

drivers_sorted : (k : ℕ) (ps : List Process) (b : ℕ) → AreAtLeast k (drivers_from k ps b) × AreSorted (drivers_from k ps b)
drivers_sorted k [] b = (tt, tt)
drivers_sorted k (x ∷ ps) b = let r = drivers_sorted (suc k) ps b in driver_sorted k x b (drivers_from (suc k) ps b) (lower_bound k (suc k) (drivers_from (suc k) ps b) (omega arith) r.0) r.1

at_least_of : (n : ℕ) (xs : List ℕ) (m : ℕ) → AreAtLeast n xs → contains xs m ≡ true → n ≤ m
at_least_of n [] m h c = cc
at_least_of n (x ∷ xs) m h c = by_test (m == x) (λ e. let k = eqb-true m x e in let l = h.0 in omega (arith, k, l)) (λ e. at_least_of n xs m h.1 (subst (λ z. (z || contains xs m) ≡ true) e c))

-- ---- the refusal

place_is : (ps : List Process) (p : ℕ) (x : Process) → slice_get ps p ≡ Some x → place_at ps p ≡ process_place x
place_is [] p x h = cc
place_is (y ∷ ps) zero x h = ap process_place (some_process y x h)
place_is (y ∷ ps) (suc p) x h = place_is ps p x h

-- the first two of a sorted list of two or more
record Firsts (xs : List ℕ) : Type 0 where
  pub rest : List ℕ
  pub is : xs ≡ get_or xs 0 0 ∷ get_or xs 1 0 ∷ rest
  pub order : get_or xs 0 0 ≤ get_or xs 1 0
  pub others : (p : ℕ) → contains xs p ≡ true → (p ≡ get_or xs 0 0) ⊎ (get_or xs 1 0 ≤ p)

firsts : (xs : List ℕ) → nat_lt 1 (length xs) ≡ true → AreSorted xs → Firsts xs
firsts [] h s = cc
firsts (x ∷ []) h s = cc
firsts (x ∷ y ∷ xs) h s = record { rest = xs; is = refl; order = s.0.0; others = others }
  where
    others : (p : ℕ) → contains (x ∷ y ∷ xs) p ≡ true → (p ≡ x) ⊎ (y ≤ p)
    others p c =
        by_test (p == x)
        (λ e. inl (eqb-true p x e))
        (λ e. inr (at_least_of y (y ∷ xs) p (omega arith, s.1.0) (subst (λ z. (z || contains (y ∷ xs) p) ≡ true) e c)))

pub driver_refusal_is : DriverRefusalIs
driver_refusal_is d r h = at (least (shared_bits d ++ clashed_bits d)) refl h
  where
    two_drivers : ℕ → DriverRefusal
    two_drivers b = TwoDrivers b (get_or (drivers d b) 0 0) (get_or (drivers d b) 1 0) (place_at d.processes (get_or (drivers d b) 1 0))

    same_two : (b f s a c g t e : ℕ) → TwoDrivers b f s a ≡ TwoDrivers c g t e → (b ≡ c) × (f ≡ g) × (s ≡ t) × (a ≡ e)
    same_two b f s a c g t e h = (cc, cc, cc, cc)

    value : (x y : DriverRefusal) → Some x ≡ Some y → x ≡ y
    value x y e = cc

    -- a bit that no initial process writes is one with two drivers
    many : (b : ℕ) → contains (shared_bits d ++ clashed_bits d) b ≡ true → contains (initial_bits d.initials) b ≡ false → nat_lt 1 (length (drivers d b)) ≡ true
    many b c n =
        split (shared_bits d) (clashed_bits d) b c
        (λ s. (and_both (contains (written_bits d.processes) b) (nat_lt 1 (length (drivers d b))) (sym (contains_filter (λ b. nat_lt 1 (length (drivers d b))) (written_bits d.processes) b) ∙ s)).1)
        (λ s. absurd (either_way (contains (initial_bits d.initials) b) (and_both (contains (initial_bits d.initials) b) (clashes d b) (sym (contains_filter (clashes d) (initial_bits d.initials) b) ∙ s)).0 n))

    -- the two least of its drivers
    drivers_case : (b : ℕ) → IsLeastOf (shared_bits d ++ clashed_bits d) b → contains (initial_bits d.initials) b ≡ false → (r : DriverRefusal) → two_drivers b ≡ r → IsDriverRefusal d r
    drivers_case b i n (TwoWriters c x y) e = cc
    drivers_case b i n (TwoDrivers c first second place) e =
        let q = same_two b (get_or (drivers d b) 0 0) (get_or (drivers d b) 1 0) (place_at d.processes (get_or (drivers d b) 1 0)) c first second place e in
        subst (λ m. IsDriverRefusal d (TwoDrivers m first second place)) q.0 (answer (firsts (drivers d b) (many b i.there n) (drivers_sorted 0 d.processes b).1) q.1 q.2 q.3)
      where
        answer : Firsts (drivers d b) → get_or (drivers d b) 0 0 ≡ first → get_or (drivers d b) 1 0 ≡ second → place_at d.processes (get_or (drivers d b) 1 0) ≡ place → IsDriverRefusal d (TwoDrivers b first second place)
        answer r fq sq aq =
            let shape : drivers d b ≡ first ∷ second ∷ r.rest = r.is ∙ ap {B = List ℕ} (λ x. x ∷ get_or (drivers d b) 1 0 ∷ r.rest) fq ∙ ap {B = List ℕ} (λ y. first ∷ y ∷ r.rest) sq in
            let w = (drivers_are d b second).0 (subst (λ xs. contains xs second ≡ true) (sym shape) (or_right (second == first) (contains (second ∷ r.rest) second) (contains_head second r.rest))) in (
              i,
              n,
              (r.rest, shape),
              subst (λ n. n ≤ second) fq (subst (λ n. get_or (drivers d b) 0 0 ≤ n) sq r.order),
              λ p c. subst (λ n. (p ≡ n) ⊎ (second ≤ p)) fq (subst (λ n. (p ≡ get_or (drivers d b) 0 0) ⊎ (n ≤ p)) sq (r.others p c)),
              (w.0, w.1, sym aq ∙ subst (λ n. place_at d.processes n ≡ process_place w.0) (sym sq) (place_is d.processes second w.0 w.1)),
            )

    -- the first two of its writers in the text
    writers_case : (b : ℕ) → IsLeastOf (shared_bits d ++ clashed_bits d) b → contains (initial_bits d.initials) b ≡ true → (xs : List AnyProcess) → writers d b ≡ xs → two_writers b xs ≡ Some r → IsDriverRefusal d r
    writers_case b i t [] e h = cc
    writers_case b i t (x ∷ []) e h = cc
    writers_case b i t (x ∷ y ∷ rest) e h = subst (IsDriverRefusal d) (value (TwoWriters b x y) r h) (i, t, (rest, e))

    at : (o : Option ℕ) → least (shared_bits d ++ clashed_bits d) ≡ o → option_and_then (driver_refusal_at d) o ≡ Some r → IsDriverRefusal d r
    at None e h = cc
    at (Some b) e h =
        let i = least_is (shared_bits d ++ clashed_bits d) b e in
        by_test (contains (initial_bits d.initials) b)
        (λ t. writers_case b i t (writers d b) refl (subst (λ (c : Bool). (if c then two_writers b (writers d b) else Some (two_drivers b)) ≡ Some r) t h))
        (λ t. drivers_case b i t r (value (two_drivers b) r (subst (λ (c : Bool). (if c then two_writers b (writers d b) else Some (two_drivers b)) ≡ Some r) t h)))
