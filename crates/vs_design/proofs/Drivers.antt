-- One driver for each bit.
use Rattle.std.proofs.Common.{◌≡◌, ℕ, zero, suc, ◌≤◌, true, false, List, [], ◌∷◌, ◌||◌, refl, sym, ap, subst, length, arith, ◌==◌, nat_lt, Some, length-append}
use Rattle.std.proofs.Math.ListN.{length-replicate}
use Rattle.std.specs.Prelude.{slice_get}
use Rattle.vs_design.specs.Designs.{Process, Continuous, Always, Design}
use Rattle.vs_design.specs.Footprints.{contains, target_bits, writes_of}
use Rattle.vs_design.specs.Rules.{times, driver, drivers_from, drivers, written_bits, shared_bits}
use Rattle.vs_design.specs.Accepted.{is_empty}
use Rattle.vs_design.proofs.Lists.{by_test, contains-left, contains-right}
use Rattle.vs_design.proofs.Blocks.{none_pass}

pub empty_is : (xs : List ℕ) → is_empty xs ≡ true → xs ≡ []
empty_is [] h = refl
empty_is (x ∷ xs) h = cc

pub times_some : (b : ℕ) (xs : List ℕ) → contains xs b ≡ true → 1 ≤ times b xs
times_some b [] h = cc
times_some b (x ∷ xs) h = by_test (b == x) (λ e. rw e (omega arith)) (λ e. rw e (times_some b xs (subst (λ c. (c || contains xs b) ≡ true) e h)))

pub driver_some : (k : ℕ) (x : Process) (b : ℕ) → contains (writes_of x) b ≡ true → 1 ≤ length (driver k x b)
driver_some k (Continuous place port target_place target e) b h = subst (λ n. 1 ≤ n) (sym (length-replicate (times b (target_bits target)) k)) (times_some b (target_bits target) h)
driver_some k (Always place star events st) b h = rw h (omega arith)

drivers_some : (k : ℕ) (ps : List Process) (n : ℕ) (x : Process) (b : ℕ) → slice_get ps n ≡ Some x → contains (writes_of x) b ≡ true → 1 ≤ length (drivers_from k ps b)
drivers_some k [] n x b e h = cc
drivers_some k (y ∷ ps) zero x b e h =
    let d = driver_some k y b (subst (λ z. contains (writes_of z) b ≡ true) (sym (some_is y x e)) h) in
    let l = length-append (driver k y b) (drivers_from (suc k) ps b) in omega (arith, d, l)
  where
    some_is : (y x : Process) → Some y ≡ Some x → y ≡ x
    some_is y x e = cc
drivers_some k (y ∷ ps) (suc n) x b e h =
    let d = drivers_some (suc k) ps n x b e h in
    let l = length-append (driver k y b) (drivers_from (suc k) ps b) in omega (arith, d, l)

one_driver : (k : ℕ) (ps : List Process) (m n : ℕ) (x y : Process) (b : ℕ) → length (drivers_from k ps b) ≤ 1 → slice_get ps m ≡ Some x → slice_get ps n ≡ Some y → contains (writes_of x) b ≡ true → contains (writes_of y) b ≡ true → n ≡ m
one_driver k [] m n x y b l e f g h = cc
one_driver k (z ∷ ps) zero zero x y b l e f g h = refl
one_driver k (z ∷ ps) zero (suc n) x y b l e f g h =
    let d = driver_some k z b (subst (λ w. contains (writes_of w) b ≡ true) (sym (some_is z x e)) g) in
    let r = drivers_some (suc k) ps n y b f h in
    let s = length-append (driver k z b) (drivers_from (suc k) ps b) in absurd (omega (arith, d, r, s))
  where
    some_is : (y x : Process) → Some y ≡ Some x → y ≡ x
    some_is y x e = cc
one_driver k (z ∷ ps) (suc m) zero x y b l e f g h =
    let d = driver_some k z b (subst (λ w. contains (writes_of w) b ≡ true) (sym (some_is z y f)) h) in
    let r = drivers_some (suc k) ps m x b e g in
    let s = length-append (driver k z b) (drivers_from (suc k) ps b) in absurd (omega (arith, d, r, s))
  where
    some_is : (y x : Process) → Some y ≡ Some x → y ≡ x
    some_is y x e = cc
one_driver k (z ∷ ps) (suc m) (suc n) x y b l e f g h =
    let s = length-append (driver k z b) (drivers_from (suc k) ps b) in
    ap suc (one_driver (suc k) ps m n x y b (omega (arith, s)) e f g h)

pub written_some : (ps : List Process) (n : ℕ) (x : Process) (b : ℕ) → slice_get ps n ≡ Some x → contains (writes_of x) b ≡ true → contains (written_bits ps) b ≡ true
written_some [] n x b e h = cc
written_some (y ∷ ps) zero x b e h = contains-left (writes_of y) (written_bits ps) b (subst (λ z. contains (writes_of z) b ≡ true) (sym (some_is y x e)) h)
  where
    some_is : (y x : Process) → Some y ≡ Some x → y ≡ x
    some_is y x e = cc
written_some (y ∷ ps) (suc n) x b e h = contains-right (writes_of y) (written_bits ps) b (written_some ps n x b e h)

not_more : (n : ℕ) → nat_lt 1 n ≡ false → n ≤ 1
not_more n h = grind arith

pub one_process : (d : Design) (m n : ℕ) (x y : Process) (b : ℕ) → is_empty (shared_bits d) ≡ true → slice_get d.processes m ≡ Some x → slice_get d.processes n ≡ Some y → contains (writes_of x) b ≡ true → contains (writes_of y) b ≡ true → n ≡ m
one_process d m n x y b s e f g h =
    one_driver 0 d.processes m n x y b
    (not_more (length (drivers d b)) (none_pass (λ b. nat_lt 1 (length (drivers d b))) (written_bits d.processes) b (empty_is (shared_bits d) s) (written_some d.processes m x b e g)))
    e f g h
