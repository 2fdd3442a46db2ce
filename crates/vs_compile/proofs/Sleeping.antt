-- How many blocks sleep.
use Rattle.std.proofs.Common.{◌≡◌, ℕ, zero, suc, ◌+◌, ◌≤◌, Bool, true, false, List, [], ◌∷◌, if◌then◌else◌, length, take, Some, slice_get, ap, ◌∙◌, refl, arith}
use Rattle.std.proofs.lemmas.List.{take_all}
use Rattle.vs_design.specs.Designs.{Process, Design}
use Rattle.vs_design.specs.Sleepers.{is_sleeping}
use Rattle.vs_program.specs.Layouts.{sleepers, sleepers_from}
use Rattle.vs_compile.proofs.Lists.{by_test}

next : (d : Design) (k n : ℕ) (xs : List Process) (x : Process) → slice_get xs n ≡ Some x → length (sleepers_from d k (take (suc n) xs)) ≡ length (sleepers_from d k (take n xs)) + (if is_sleeping d x then 1 else 0)
next d k n [] x e = cc
next d k zero (y ∷ xs) x e =
    let same : y ≡ x = some_is y x e in
    ap (λ z. length (if is_sleeping d z then (k ∷ []) else [])) same ∙ by_test (is_sleeping d x) (λ s. rw s refl) (λ s. rw s refl)
  where
    some_is : (a b : Process) → Some a ≡ Some b → a ≡ b
    some_is a b q = cc
next d k (suc n) (y ∷ xs) x e =
    let rest = next d (suc k) n xs x e in
    by_test (is_sleeping d y)
    (λ s. rw s (more (length (sleepers_from d (suc k) (take (suc n) xs))) (length (sleepers_from d (suc k) (take n xs))) (if is_sleeping d x then 1 else 0) rest))
    (λ s. rw s rest)
  where
    more : (a b c : ℕ) → a ≡ b + c → suc a ≡ suc b + c
    more a b c h = omega (arith, h)

pub one_more : (d : Design) (n : ℕ) (x : Process) → slice_get d.processes n ≡ Some x → is_sleeping d x ≡ true → length (sleepers_from d 0 (take (n + 1) d.processes)) ≡ length (sleepers_from d 0 (take n d.processes)) + 1
one_more d n x e s =
    let at : n + 1 ≡ suc n = omega arith in
    ap (λ k. length (sleepers_from d 0 (take k d.processes))) at ∙ next d 0 n d.processes x e ∙ ap (λ (c : Bool). length (sleepers_from d 0 (take n d.processes)) + (if c then 1 else 0)) s

pub no_more : (d : Design) (n : ℕ) (x : Process) → slice_get d.processes n ≡ Some x → is_sleeping d x ≡ false → length (sleepers_from d 0 (take (n + 1) d.processes)) ≡ length (sleepers_from d 0 (take n d.processes))
no_more d n x e s =
    let at : n + 1 ≡ suc n = omega arith in
    let none : length (sleepers_from d 0 (take n d.processes)) + 0 ≡ length (sleepers_from d 0 (take n d.processes)) = omega arith in
    ap (λ k. length (sleepers_from d 0 (take k d.processes))) at ∙ next d 0 n d.processes x e ∙ ap (λ (c : Bool). length (sleepers_from d 0 (take n d.processes)) + (if c then 1 else 0)) s ∙ none

pub all_counted : (d : Design) (n : ℕ) → length d.processes ≤ n → length (sleepers_from d 0 (take n d.processes)) ≡ length (sleepers d)
all_counted d n l = ap (λ xs. length (sleepers_from d 0 xs)) (take_all n d.processes l)
