-- The places of the masks, by the sleeping blocks before and behind each.
use Rattle.std.proofs.Common.{◌≡◌, ℕ, zero, suc, ◌+◌, ◌≤◌, Bool, true, false, ◌==◌, List, [], ◌∷◌, if◌then◌else◌, length, take, Some, slice_get, sym, ap, ◌∙◌, refl, arith, eqb-true, eq-eqb}
use Rattle.vs_design.specs.Designs.{Process, Design}
use Rattle.vs_design.specs.Sleepers.{is_sleeping}
use Rattle.vs_program.specs.Layouts.{first_mask, mask_of, place_of, sleepers, sleepers_from}
use Rattle.vs_compile.proofs.Lists.{by_test}
use Rattle.vs_compile.proofs.Sleeping.{all_counted}

apart : (k n : ℕ) → ((k + suc n) == k) ≡ false
apart k n = by_test ((k + suc n) == k) (λ e. let same = eqb-true (k + suc n) k e in absurd (omega (arith, same))) (λ e. e)

place_from : (d : Design) (k n : ℕ) (xs : List Process) (x : Process) → slice_get xs n ≡ Some x → is_sleeping d x ≡ true → place_of (sleepers_from d k xs) (k + n) ≡ length (sleepers_from d k (take n xs))
place_from d k n [] x e s = cc
place_from d k zero (y ∷ xs) x e s =
    let same : y ≡ x = some_is y x e in
    let at : k + 0 ≡ k = omega arith in
    ap (λ m. place_of (sleepers_from d k (y ∷ xs)) m) at
    ∙ ap (λ (c : Bool). place_of (if c then (k ∷ sleepers_from d (suc k) xs) else sleepers_from d (suc k) xs) k) (ap (is_sleeping d) same ∙ s)
    ∙ ap (λ (c : Bool). if c then 0 else suc (place_of (sleepers_from d (suc k) xs) k)) (eq-eqb k k refl)
  where
    some_is : (a b : Process) → Some a ≡ Some b → a ≡ b
    some_is a b q = cc
place_from d k (suc n) (y ∷ xs) x e s =
    let rest = place_from d (suc k) n xs x e s in
    let at : k + suc n ≡ suc k + n = omega arith in
    let all = sleepers_from d (suc k) xs in
    let first = sleepers_from d (suc k) (take n xs) in
    by_test (is_sleeping d y)
    (λ t.
    ap (λ (c : Bool). place_of (if c then (k ∷ all) else all) (k + suc n)) t
    ∙ ap (λ (c : Bool). if c then 0 else suc (place_of all (k + suc n))) (apart k n)
    ∙ ap (λ m. suc (place_of all m)) at ∙ ap suc rest
    ∙ sym (ap (λ (c : Bool). length (if c then (k ∷ first) else first)) t))
    (λ t.
    ap (λ (c : Bool). place_of (if c then (k ∷ all) else all) (k + suc n)) t
    ∙ ap (place_of all) at ∙ rest
    ∙ sym (ap (λ (c : Bool). length (if c then (k ∷ first) else first)) t))

-- the mask of a sleeping block stands behind those of the ones before it
pub place_is : (d : Design) (p : ℕ) (x : Process) → slice_get d.processes p ≡ Some x → is_sleeping d x ≡ true → place_of (sleepers d) p ≡ length (sleepers_from d 0 (take p d.processes))
place_is d p x e s = let at : 0 + p ≡ p = omega arith in sym (ap (place_of (sleepers d)) at) ∙ place_from d 0 p d.processes x e s

-- and before the temporaries by as many as sleep behind it, and itself
pub mask_is : (d : Design) (p : ℕ) (x : Process) → slice_get d.processes p ≡ Some x → is_sleeping d x ≡ true → (first here n : ℕ) → first ≡ first_mask d + length (sleepers d)
    → here + length (sleepers_from d 0 (take p d.processes)) ≡ length (sleepers_from d 0 (take n d.processes)) → length d.processes ≤ n → mask_of d p + here ≡ first
mask_is d p x e s first here n behind counted all =
    let place = place_is d p x e s in
    let whole = all_counted d n all in
    omega (arith, place, whole, counted, behind)
