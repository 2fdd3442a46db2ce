-- Blocks of which the selectors are marked.
use Rattle.std.proofs.Common.{◌≡◌, ℕ, ◌<◌, Bool, true, false, ◌&&◌, List, [], length, map, if◌then◌else◌, nat_lt, Some, refl, sym, ap, ◌∙◌}
use Rattle.std.specs.Prelude.{slice_get}
use Rattle.std.specs.List.{list_all}
use Rattle.std.proofs.lemmas.Bool.{ltb-true}
use Rattle.vs_design.specs.Designs as D
use Rattle.vs_design.specs.Designs.{Design, Process, Continuous, Always, is_combinational}
use Rattle.vs_design.specs.Elaborated.{are_formed_events, is_formed_process, is_formed_statement}
use Rattle.vs_design.specs.Expressions.{Signal}
use Rattle.vs_design.specs.Fits.{fits_process, fits_statement}
use Rattle.vs_design.specs.Selects.{block_selector_signals, is_lenient_block, selector_signals}
use Rattle.vs_design.specs.Statements.{Statement}
use Rattle.vs_design.proofs.Lists.{and_both}
use Rattle.vs_design.proofs.Parts.{all_at}
use Rattle.vs_flat.specs.declared.processes.Event.{Event}
use Rattle.vs_flat.specs.declared.processes.Process.{Process as FlatProcess}
use Rattle.vs_flat.specs.declared.processes.Port.{Port}
use Rattle.vs_flat.specs.declared.processes.Kind.TheVariants as K
use Rattle.vs_flat.specs.Arena.{Arena}
use Rattle.vs_flat.specs.DesignOf.{arena_signals, design_of, event_of}
use Rattle.vs_flat.specs.Laws.{EachProcess, ProcessNames}
use Rattle.vs_flat.specs.Lawful.{IsLawful}
use Rattle.vs_flat.specs.Named.{all_below, kind_names_below}
use Rattle.vs_flat.specs.Trees.{signal_at}
use Rattle.vs_reads.proofs.ByKind.{kind_in, kind_is, process_same}
use Rattle.vs_shape.specs.Bodies.{body_of}
use Rattle.vs_full.specs.Found.{ArePicked}
use Rattle.vs_full.proofs.Picking.{picked_as, picked_none}

abbrev chosen : Bool → List Signal → List Signal
chosen c ss = if c then ss else []

none_block : (d : Design) (x : Process) → is_lenient_block x ≡ false → [] ≡ block_selector_signals d x
none_block d (Continuous place port target_place target e) h = refl
none_block d (Always place star events statement) h = sym (ap (λ (c : Bool). chosen c (selector_signals d statement)) h)

pub unpicked_block : (d : Design) (x : Process) (picked : List Bool) → is_lenient_block x ≡ false → ArePicked d (block_selector_signals d x) picked picked
unpicked_block d x picked h = picked_as d [] (block_selector_signals d x) picked picked (none_block d x h) (picked_none d picked)

pub unpicked_assign : EachProcess → (a : Arena) (p : ℕ) (r : FlatProcess) (target e : ℕ) (port : Port) (x : Process) (picked : List Bool) → slice_get a.processes p ≡ Some r → r.kind ≡ K.Assign target e port → slice_get (design_of a).processes p ≡ Some x
    → ArePicked (design_of a) (block_selector_signals (design_of a) x) picked picked
unpicked_assign each a p r target e port x picked at kind is =
    picked_as (design_of a) [] (block_selector_signals (design_of a) x) picked picked
    (ap (block_selector_signals (design_of a)) (process_same (kind_in a r.at (K.Assign target e port)) x (slice_get (design_of a).processes p) (kind_is each a p r (K.Assign target e port) at kind) is)) (picked_none (design_of a) picked)

lenient_block : (d : Design) (place : ℕ) (star : Bool) (events : List D.Event) (statement : Statement) → is_lenient_block (Always place star events statement) ≡ true → selector_signals d statement ≡ block_selector_signals d (Always place star events statement)
lenient_block d place star events statement h = sym (ap (λ (c : Bool). chosen c (selector_signals d statement)) h)

pub picked_block : EachProcess → (a : Arena) (p : ℕ) (r : FlatProcess) (star : Bool) (events : List Event) (statement : ℕ) (x : Process) (picked after : List Bool) → slice_get a.processes p ≡ Some r → r.kind ≡ K.Block star events statement
    → slice_get (design_of a).processes p ≡ Some x → is_lenient_block x ≡ true → ArePicked (design_of a) (selector_signals (design_of a) (body_of a statement)) picked after → ArePicked (design_of a) (block_selector_signals (design_of a) x) picked after
picked_block each a p r star events statement x picked after at kind is lenient h =
    let same = process_same (kind_in a r.at (K.Block star events statement)) x (slice_get (design_of a).processes p) (kind_is each a p r (K.Block star events statement) at kind) is in
    picked_as (design_of a) (selector_signals (design_of a) (body_of a statement)) (block_selector_signals (design_of a) x) picked after
    (lenient_block (design_of a) r.at star (map (event_of (signal_at (arena_signals a))) events) (body_of a statement) (ap is_lenient_block same ∙ lenient) ∙ ap (block_selector_signals (design_of a)) same) h

-- the statement of a block
pub record HasBody (a : Arena) (statement : ℕ) : Type 0 where
  pub there : statement < length a.statements
  pub fits : fits_statement (body_of a statement) ≡ true
  pub formed : is_formed_statement (design_of a) (body_of a statement) ≡ true

pub block_body : EachProcess → ProcessNames → (a : Arena) → IsLawful a → list_all fits_process (design_of a).processes ≡ true → (p : ℕ) (r : FlatProcess) (star : Bool) (events : List Event) (statement : ℕ) → slice_get a.processes p ≡ Some r → r.kind ≡ K.Block star events statement → HasBody a statement
block_body each names a lawful fits p r star events statement at is =
    let x = kind_is each a p r (K.Block star events statement) at is in
    let below : kind_names_below (length a.signals) (length a.nodes) (length a.statements) (K.Block star events statement) ≡ true = sym (ap (kind_names_below (length a.signals) (length a.nodes) (length a.statements)) is) ∙ names a lawful.names p r at in
    record {
      there = ltb-true statement (length a.statements) (and_both (nat_lt statement (length a.statements)) true (and_both (all_below (length a.signals) (map (λ (e : Event). e.signal) events) && true) (nat_lt statement (length a.statements) && true) below).1).0;
      fits = all_at fits_process (design_of a).processes p _ fits x;
      formed = (and_both (are_formed_events (design_of a) star (map (event_of (signal_at (arena_signals a))) events)) (is_formed_statement (design_of a) (body_of a statement)) (all_at (is_formed_process (design_of a)) (design_of a).processes p _ lawful.design.formed x)).1;
    }
