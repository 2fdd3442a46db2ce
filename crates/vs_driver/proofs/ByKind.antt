-- Targets of assigns, and the table of drivers.
use Rattle.std.proofs.Common.{◌≡◌, ℕ, zero, suc, ◌<◌, Bool, true, List, [], ◌∷◌, map, is_some, None, refl, ap, ◌∙◌, subst, Some, length, take, replicate}
use Rattle.std.specs.Prelude.{slice_get}
use Rattle.std.specs.List.Sorted.{IsStrictlyIncreasing}
use Rattle.std.proofs.lemmas.Option.{slice_get_within}
use Rattle.std.proofs.lemmas.List.{take_all}
use Rattle.std.proofs.Math.Nat.{le_refl}
use Rattle.vs_design.specs.Designs.{Design, bit_count}
use Rattle.vs_design.specs.Designs as D
use Rattle.vs_design.specs.Footprints.{contains, writes_of}
use Rattle.std.specs.List.{list_all}
use Rattle.vs_design.specs.Fits.{is_fit, fits_target, fits_process}
use Rattle.vs_typed.specs.Laws.{EachProcessFits}
use Rattle.vs_shape.specs.Walked.{IsTarget}
use Rattle.vs_design.specs.Refusals.{width_refusal}
use Rattle.vs_design.specs.RefusalLaws.{DriversAre}
use Rattle.vs_design.specs.Rules.{times, driver, drivers, drivers_from}
use Rattle.vs_flat.specs.declared.processes.Event.{Event}
use Rattle.vs_flat.specs.declared.processes.Process.{Process}
use Rattle.vs_flat.specs.declared.processes.Kind.TheVariants as K
use Rattle.vs_flat.specs.declared.processes.Port.{Port}
use Rattle.vs_flat.specs.Arena.{Arena}
use Rattle.vs_flat.specs.Lawful.{IsLawful}
use Rattle.vs_flat.specs.Laws.{EachProcess, AssignTargets}
use Rattle.vs_flat.specs.Trees.{signal_at, tree_at, statement_at, target_tree}
use Rattle.vs_flat.specs.DesignOf.{event_of, arena_signals, arena_trees, arena_statements, design_of}
use Rattle.vs_driver.specs.declared.drivers.Drivers.{Drivers}
use Rattle.vs_driver.specs.declared.drivers.Drivers.TheVariants.{Nobody, Two}
use Rattle.vs_driver.specs.Drivers.{first_two, drivers_at, AreDrivers, IsTableOf}
use Rattle.vs_reads.proofs.Tests.{and_both, contains_head, contains_tail}
use Rattle.vs_driver.proofs.Counting.{block_driver}
use Rattle.vs_reads.proofs.ByKind.{kind_in, kind_is}

-- what holds of all processes
all_at : (f : D.Process → Bool) (ps : List D.Process) (p : ℕ) (x : D.Process) → list_all f ps ≡ true → slice_get ps p ≡ Some x → f x ≡ true
all_at f [] p x h e = cc
all_at f (y ∷ ps) zero x h e = subst (λ z. f z ≡ true) (some_same y x e) (and_both (f y) (list_all f ps) h).0
  where
    some_same : (x y : D.Process) → Some x ≡ Some y → x ≡ y
    some_same x y e = cc
all_at f (y ∷ ps) (suc p) x h e = all_at f ps p x (and_both (f y) (list_all f ps) h).1 e

-- what an assign writes is a target, of 1 to 64 bits
pub target_is : AssignTargets → EachProcessFits → EachProcess → (a : Arena) → IsLawful a → width_refusal (design_of a) ≡ None → (p : ℕ) (r : Process) (target e : ℕ) (port : Port) → slice_get a.processes p ≡ Some r → r.kind ≡ K.Assign target e port → IsTarget (tree_at (arena_trees a) target)
target_is targets fits each a l w p r target e port i h = record {
  target = ap is_some (targets a l p r.at target e port (i ∙ ap (λ k. Some (record { at = r.at; kind = k })) h));
  fits = (and_both (fits_target (target_tree (tree_at (arena_trees a) target))) (is_fit (tree_at (arena_trees a) e)) (all_at fits_process (design_of a).processes p (kind_in a r.at (K.Assign target e port)) (fits (design_of a) l.design w) (kind_is each a p r (K.Assign target e port) i h))).0;
}

-- a block drives each of its bits once
pub block_noted : (a : Arena) (p place : ℕ) (star : Bool) (events : List Event) (statement : ℕ) (bits : List ℕ) → IsStrictlyIncreasing bits → ((b : ℕ) → contains bits b ≡ contains (writes_of (kind_in a place (K.Block star events statement))) b) → (b : ℕ) → driver p (kind_in a place (K.Block star events statement)) b ≡ replicate (times b bits) p
block_noted a p place star events statement bits r s = block_driver p place star (map (event_of (signal_at (arena_signals a))) events) (statement_at (arena_statements a) statement) bits r s

-- ---- the whole table

pub table_whole : (d : Design) (table : List Drivers) (n : ℕ) → length table ≡ bit_count d → length d.processes ≡ n → AreDrivers d n table → IsTableOf d table
table_whole d table n c e h = record {
  count = c;
  drivers = λ b l. h b l ∙ ap first_two (ap (λ ps. drivers_from 0 ps b) (subst (λ m. take m d.processes ≡ d.processes) e (take_all (length d.processes) d.processes (le_refl (length d.processes)))));
}

pub none_yet : (d : Design) (table : List Drivers) → ((b : ℕ) → drivers_at table b ≡ Nobody) → AreDrivers d 0 table
none_yet d table h b l = h b

-- each of the two is a process
pub second_there : DriversAre → (d : Design) (b p q : ℕ) → first_two (drivers d b) ≡ Two p q → q < length d.processes
second_there law d b p q e = go (drivers d b) refl e
  where
    go : (ps : List ℕ) → ps ≡ drivers d b → first_two ps ≡ Two p q → q < length d.processes
    go [] f e = cc
    go (x ∷ []) f e = cc
    go (x ∷ y ∷ ps) f e =
        let s : y ≡ q = cc in
        let w = (law d b y).0 (subst (λ zs. contains zs y ≡ true) f (contains_tail y x (y ∷ ps) (contains_head y ps))) in
        subst (λ m. m < length d.processes) s (slice_get_within d.processes y w.0 w.1)
