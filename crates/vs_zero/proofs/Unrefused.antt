-- What holds where no rule on blocks and drivers is broken.
use Rattle.std.proofs.Common.{◌≡◌, ℕ, zero, suc, Bool, true, false, List, [], ◌∷◌, ◌&&◌, refl, ap, subst, Some, None, Option, option_map, not}
use Rattle.std.specs.Prelude.{slice_get}
use Rattle.std.specs.List.{list_all}
use Rattle.vs_design.specs.Designs.{Process, Initial, Design, AnyProcess, OfProcess, OfInitial, in_text_order, is_clocked}
use Rattle.vs_design.specs.Accepted.{is_empty}
use Rattle.vs_design.specs.Elaborated.{IsLawfulDesign}
use Rattle.vs_design.specs.Equations.{IsOrderly}
use Rattle.vs_design.specs.Levels.{at_number, is_ready, is_order_after, is_level_order}
use Rattle.vs_design.specs.Refusals.{least, otherwise, first_in, FunctionLatch, MixedAssign, Sensitivity, Latch, block_refusal_of, block_refusal_at, block_refusal, driver_refusal, signal_of}
use Rattle.vs_design.specs.Designs.{process_place}
use Rattle.vs_design.specs.Rules.{mixed_assigns, missing_bits, latches, function_latches}
use Rattle.vs_design.specs.Footprints.{contains}
use Rattle.vs_design.proofs.Exactly.{otherwise_none}
use Rattle.vs_design.proofs.Sharing.{unshared}
use Rattle.vs_design.proofs.TextOrder.{by_sort, processes_pass}
use Rattle.vs_reads.proofs.Numbered.{at_is}
use Rattle.vs_shape.proofs.Names.{and_both}
use Rattle.vs_reads.proofs.Tests.{and_true, not_true}
use Rattle.vs_zero.proofs.Starting.{all_clear, at_all}

none_least : (ns : List ℕ) → least ns ≡ None → ns ≡ []
none_least [] h = refl
none_least (n ∷ ns) h = absurd (let z : ⊥ = cc in z)

none_made : {B : Type 0} (f : ℕ → B) (o : Option ℕ) → option_map f o ≡ None → o ≡ None
none_made f None h = refl
none_made f (Some n) h = absurd (let z : ⊥ = cc in z)

empty_is : (ns : List ℕ) → is_empty ns ≡ true → ns ≡ []
empty_is [] h = refl
empty_is (n ∷ ns) h = absurd (let z : ⊥ = cc in z)

-- no process mixes assignments, or may latch
abbrev is_clean : Design → Process → Bool
is_clean d x = is_empty (mixed_assigns x) && is_empty (latches d x)

process_clean : (d : Design) (p : ℕ) (x : Process) → block_refusal_of d p x ≡ None → is_clean d x ≡ true
process_clean d p x h =
    let missing = option_map (λ b. Sensitivity p (signal_of d.signals b) (process_place x)) (least (missing_bits x)) in
    let kept = option_map (λ b. Latch p b (process_place x)) (least (latches d x)) in
    let one = otherwise_none (option_map MixedAssign (least (mixed_assigns x))) (otherwise missing kept) h in
    let two = otherwise_none missing kept one.1 in
    and_true (is_empty (mixed_assigns x)) (is_empty (latches d x)) (ap is_empty (none_least (mixed_assigns x) (none_made MixedAssign (least (mixed_assigns x)) one.0)))
    (ap is_empty (none_least (latches d x) (none_made (λ b. Latch p b (process_place x)) (least (latches d x)) two.1)))

any_clean : (d : Design) (x : AnyProcess) → block_refusal_at d x ≡ None → by_sort (is_clean d) (λ (i : Initial). true) x ≡ true
any_clean d (OfProcess p x) h = process_clean d p x h
any_clean d (OfInitial k i) h = refl

pub record IsClean (d : Design) (x : Process) : Type 0 where
  pub unmixed : mixed_assigns x ≡ []
  pub no_latch : latches d x ≡ []

pub clean : (d : Design) → IsLawfulDesign d → block_refusal d ≡ None → (p : ℕ) (x : Process) → slice_get d.processes p ≡ Some x → IsClean d x
clean d l h p x e =
    let functions = option_map FunctionLatch (least (function_latches d.functions)) in
    let none = (otherwise_none functions (first_in (block_refusal_at d) (in_text_order d)) h).1 in
    let all = processes_pass d l (is_clean d) (λ (i : Initial). true) (all_clear (block_refusal_at d) (by_sort (is_clean d) (λ (i : Initial). true)) (in_text_order d) (any_clean d) none) in
    let here = and_both (is_empty (mixed_assigns x)) (is_empty (latches d x)) (at_all (is_clean d) d.processes p x all e) in
    record { unmixed = empty_is (mixed_assigns x) here.0; no_latch = empty_is (latches d x) here.1 }

all_empty : (f : Process → List ℕ) (ps : List Process) → ((p : ℕ) (x : Process) → slice_get ps p ≡ Some x → f x ≡ []) → list_all (λ x. is_empty (f x)) ps ≡ true
all_empty f [] h = refl
all_empty f (x ∷ ps) h = both (is_empty (f x)) (list_all (λ x. is_empty (f x)) ps) (ap is_empty (h 0 x refl)) (all_empty f ps (λ p y e. h (suc p) y e))
  where
    both : (a b : Bool) → a ≡ true → b ≡ true → (a && b) ≡ true
    both true b p q = q
    both false b p q = p

pub orderly : (d : Design) → IsLawfulDesign d → block_refusal d ≡ None → driver_refusal d ≡ None → IsOrderly d
orderly d l b r = record {
  lawful = l;
  unmixed = all_empty mixed_assigns d.processes (λ p x e. (clean d l b p x e).unmixed);
  no_latch = all_empty (latches d) d.processes (λ p x e. (clean d l b p x e).no_latch);
  one_driver = (unshared d l r).0;
}

-- ---- level orders

-- the process of a place in an order is there, and isn't clocked
pub record IsSettling (d : Design) (p : ℕ) : Type 0 where
  pub process : Process
  pub is : slice_get d.processes p ≡ Some process
  pub settles : is_clocked process ≡ false

settling_after : (d : Design) (placed order : List ℕ) (k p : ℕ) → is_order_after placed d order ≡ true → slice_get order k ≡ Some p → IsSettling d p
settling_after d placed [] k p h e = cc
settling_after d placed (q ∷ order) zero p h e =
    let parts = and_both (not (contains placed q) && at_number q d.processes (λ process. not (is_clocked process) && is_ready placed 0 d.processes process)) (is_order_after (q ∷ placed) d order) h in
    let here = and_both (not (contains placed q)) (at_number q d.processes (λ process. not (is_clocked process) && is_ready placed 0 d.processes process)) parts.0 in
    let f = at_is q d.processes (λ process. not (is_clocked process) && is_ready placed 0 d.processes process) here.1 in
    subst (IsSettling d) (same q p e) (record { process = f.0; is = f.1; settles = not_true (is_clocked f.0) (and_both (not (is_clocked f.0)) (is_ready placed 0 d.processes f.0) f.2).0 })
  where
    same : (q p : ℕ) → Some q ≡ Some p → q ≡ p
    same q p e = cc
settling_after d placed (q ∷ order) (suc k) p h e =
    settling_after d (q ∷ placed) order k p (and_both (not (contains placed q) && at_number q d.processes (λ process. not (is_clocked process) && is_ready placed 0 d.processes process)) (is_order_after (q ∷ placed) d order) h).1 e

pub settling : (d : Design) (order : List ℕ) (k p : ℕ) → is_level_order d order ≡ true → slice_get order k ≡ Some p → IsSettling d p
settling d order k p h e = settling_after d [] order k p h e
