-- What a process of a flat design names, by its kind.
use Rattle.std.proofs.Common.{◌≡◌, ℕ, zero, suc, ◌<◌, Bool, true, List, [], ◌∷◌, ◌&&◌, sym, ap, ◌∙◌, subst, Some, None, map, nat_lt, length}
use Rattle.std.specs.Prelude.{slice_get}
use Rattle.std.specs.List.{list_all}
use Rattle.std.proofs.lemmas.Bool.{ltb-true}
use Rattle.vs_design.specs.Designs as D
use Rattle.vs_design.specs.Elaborated.{are_formed_events, has_constant_selects, is_formed, is_formed_process, is_formed_target}
use Rattle.vs_design.specs.Fits.{fits_process}
use Rattle.vs_design.specs.Footprints.{is_net}
use Rattle.vs_design.specs.Within.{names_within, target_within, statement_within, FormedIsWithin, StatementIsWithin, TargetIsWithin}
use Rattle.vs_design.specs.Refusals.{width_refusal}
use Rattle.vs_flat.specs.declared.processes.Process.{Process}
use Rattle.vs_flat.specs.declared.processes.Kind.{Kind}
use Rattle.vs_flat.specs.declared.processes.Kind.TheVariants as K
use Rattle.vs_flat.specs.declared.processes.Port.{Port}
use Rattle.vs_flat.specs.declared.processes.Event.{Event}
use Rattle.vs_flat.specs.Targets.{target_of}
use Rattle.vs_flat.specs.Arena.{Arena}
use Rattle.vs_flat.specs.Lawful.{NamesEarlier, IsLawful}
use Rattle.vs_flat.specs.Laws.{EachProcess, ProcessNames, AssignTargets}
use Rattle.vs_flat.specs.Named.{all_below, kind_names_below}
use Rattle.vs_flat.specs.Trees.{signal_at, tree_at, target_tree}
use Rattle.vs_flat.specs.DesignOf.{arena_signals, arena_trees, design_of, event_of}
use Rattle.vs_sets.specs.StatementParts.{statement_of}
use Rattle.vs_typed.specs.Laws.{EachProcessFits}
use Rattle.vs_shape.proofs.Names.{and_both}
use Rattle.vs_reads.proofs.ByKind.{kind_in, kind_is}

-- what an assign's target is
pub assign_target : AssignTargets → (a : Arena) → IsLawful a → (p : ℕ) (r : Process) (target e : ℕ) (port : Port) → slice_get a.processes p ≡ Some r → r.kind ≡ K.Assign target e port
    → target_of (tree_at (arena_trees a) target) ≡ Some (target_tree (tree_at (arena_trees a) target))
assign_target law a l p r target e port i h = law a l p r.at target e port (i ∙ ap (λ k. Some (record { at = r.at; kind = k })) h)

-- the statement of a block
pub statement_there : ProcessNames → (a : Arena) → NamesEarlier a → (p : ℕ) (r : Process) (star : Bool) (events : List Event) (statement : ℕ) → slice_get a.processes p ≡ Some r → r.kind ≡ K.Block star events statement → statement < length a.statements
statement_there law a n p r star events statement i h =
    let c : kind_names_below (length a.signals) (length a.nodes) (length a.statements) (K.Block star events statement) ≡ true = sym (ap (kind_names_below (length a.signals) (length a.nodes) (length a.statements)) h) ∙ law a n p r i in
    ltb-true statement (length a.statements) (and_both (nat_lt statement (length a.statements)) true (and_both (all_below (length a.signals) (map (λ (e : Event). e.signal) events) && true) (nat_lt statement (length a.statements) && true) c).1).0

pub plain_all : (f : D.Process → Bool) (ps : List D.Process) (p : ℕ) (x : D.Process) → list_all f ps ≡ true → slice_get ps p ≡ Some x → f x ≡ true
plain_all f [] p x h e = cc
plain_all f (y ∷ ps) zero x h e = subst (λ z. f z ≡ true) (some_same y x e) (and_both (f y) (list_all f ps) h).0
  where
    some_same : (x y : D.Process) → Some x ≡ Some y → x ≡ y
    some_same x y e = cc
plain_all f (y ∷ ps) (suc p) x h e = plain_all f ps p x (and_both (f y) (list_all f ps) h).1 e

pub process_formed : EachProcess → (a : Arena) → IsLawful a → (p : ℕ) (r : Process) (k : Kind) → slice_get a.processes p ≡ Some r → r.kind ≡ k → is_formed_process (design_of a) (kind_in a r.at k) ≡ true
process_formed each a l p r k i h = plain_all (is_formed_process (design_of a)) (design_of a).processes p (kind_in a r.at k) l.design.formed (kind_is each a p r k i h)

-- a block names bits of the design alone, and so does an assign
pub block_within : StatementIsWithin → EachProcess → (a : Arena) → IsLawful a → (p : ℕ) (r : Process) (star : Bool) (events : List Event) (statement : ℕ) → slice_get a.processes p ≡ Some r → r.kind ≡ K.Block star events statement
    → statement_within (D.bit_count (design_of a)) (statement_of a statement) ≡ true
block_within law each a l p r star events statement i h =
    let d = design_of a in
    law d l.design.bits_numbered (statement_of a statement) (and_both (are_formed_events d star (map (event_of (signal_at (arena_signals a))) events)) _ (process_formed each a l p r (K.Block star events statement) i h)).1

pub target_within_design : TargetIsWithin → EachProcess → (a : Arena) → IsLawful a → (p : ℕ) (r : Process) (target e : ℕ) (port : Port) → slice_get a.processes p ≡ Some r → r.kind ≡ K.Assign target e port
    → target_within (D.bit_count (design_of a)) (target_tree (tree_at (arena_trees a) target)) ≡ true
target_within_design law each a l p r target e port i h =
    let d = design_of a in
    let t = target_tree (tree_at (arena_trees a) target) in
    let x = tree_at (arena_trees a) e in
    let formed = process_formed each a l p r (K.Assign target e port) i h in
    let front = (and_both (is_formed_target d is_net t && has_constant_selects t && is_formed d x) _ formed).0 in
    let first = (and_both (is_formed_target d is_net t && has_constant_selects t) (is_formed d x) front).0 in
    law d l.design.bits_numbered is_net t (and_both (is_formed_target d is_net t) (has_constant_selects t) first).0

pub names_within_design : FormedIsWithin → EachProcess → (a : Arena) → IsLawful a → (p : ℕ) (r : Process) (target e : ℕ) (port : Port) → slice_get a.processes p ≡ Some r → r.kind ≡ K.Assign target e port
    → names_within (D.bit_count (design_of a)) (tree_at (arena_trees a) e) ≡ true
names_within_design law each a l p r target e port i h =
    let d = design_of a in
    let t = target_tree (tree_at (arena_trees a) target) in
    let x = tree_at (arena_trees a) e in
    let formed = process_formed each a l p r (K.Assign target e port) i h in
    let front = (and_both (is_formed_target d is_net t && has_constant_selects t && is_formed d x) _ formed).0 in
    law d l.design.bits_numbered x (and_both (is_formed_target d is_net t && has_constant_selects t) (is_formed d x) front).1

pub process_fits : EachProcessFits → EachProcess → (a : Arena) → IsLawful a → width_refusal (design_of a) ≡ None → (p : ℕ) (r : Process) (k : Kind) → slice_get a.processes p ≡ Some r → r.kind ≡ k → fits_process (kind_in a r.at k) ≡ true
process_fits fits each a l w p r k i h = plain_all fits_process (design_of a).processes p (kind_in a r.at k) (fits (design_of a) l.design w) (kind_is each a p r k i h)
