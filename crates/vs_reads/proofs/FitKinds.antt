-- What a process of a typed design names is there and fits.
use Rattle.std.proofs.Common.{◌≡◌, ℕ, zero, suc, ◌<◌, Bool, true, false, ◌&&◌, ◌||◌, nat_lt, List, [], ◌∷◌, map, length, refl, sym, ap, ◌∙◌, subst, Some, None, Option}
use Rattle.std.specs.Prelude.{slice_get, is_some, Result, Ok, Err, IfOk}
use Rattle.std.specs.List.{list_any, list_all}
use Rattle.std.proofs.lemmas.Bool.{ltb-true}
use Rattle.vs_design.specs.Expressions.{Signal}
use Rattle.vs_design.specs.Statements.{Target}
use Rattle.vs_design.specs.Designs as D
use Rattle.vs_design.specs.Elaborated.{is_formed_initial}
use Rattle.vs_design.specs.Fits.{is_fit, fits_target, fits_statement, fits_process, fits_initial}
use Rattle.vs_design.specs.Within.{statement_within, StatementIsWithin}
use Rattle.vs_design.specs.Laws.{BitsOfDesign}
use Rattle.vs_flat.specs.declared.processes.Process.{Process}
use Rattle.vs_flat.specs.declared.processes.Initial.{Initial}
use Rattle.vs_flat.specs.declared.processes.Event.{Event}
use Rattle.vs_flat.specs.declared.processes.Kind.{Kind}
use Rattle.vs_flat.specs.declared.processes.Kind.TheVariants as K
use Rattle.vs_flat.specs.Arena.{Arena}
use Rattle.vs_flat.specs.Named.{all_below, kind_signals, kind_expressions, kind_statements, kind_names_below}
use Rattle.vs_flat.specs.Lawful.{IsLawful}
use Rattle.vs_flat.specs.Laws.{ProcessNames, InitialNames, AssignTargets, EachProcess, EachInitial}
use Rattle.vs_flat.specs.Ports.{port_of}
use Rattle.vs_flat.specs.declared.processes.Port.{Port}
use Rattle.vs_flat.specs.Targets.{target_of, place_of}
use Rattle.vs_flat.specs.Trees.{signal_at, target_tree}
use Rattle.vs_flat.specs.DesignOf.{arena_signals, design_of, kind_of, initial_of, event_of}
use Rattle.vs_shape.specs.Nodes.{tree_of}
use Rattle.vs_shape.specs.Bodies.{body_of}
use Rattle.vs_reads.specs.Footprint.{footprint_in, footprints_of, footprint_at, no_footprint}
use Rattle.vs_reads.specs.Kept.{footprint_of}
use Rattle.vs_reads.specs.declared.lists.ProcessBits.{ProcessBits}
use Rattle.vs_reads.specs.Named.{EachSignalBelow, BlockIsFit, IsFitKind}
use Rattle.vs_reads.specs.Within.{IsWithin}
use Rattle.vs_reads.proofs.Ascending.{both_parts, made_at}

same_of : {A : Type 0} (x y : A) → Some x ≡ Some y → x ≡ y
same_of x y e = cc

all_at : {A : Type 0} (test : A → Bool) (xs : List A) (k : ℕ) (x : A) → list_all test xs ≡ true → slice_get xs k ≡ Some x → test x ≡ true
all_at test [] k x h at = cc
all_at test (y ∷ ys) zero x h at = subst (λ z. test z ≡ true) (same_of y x at) (both_parts (test y) (list_all test ys) h).0
all_at test (y ∷ ys) (suc k) x h at = all_at test ys k x (both_parts (test y) (list_all test ys) h).1 at

head_below : (n m : ℕ) (ms : List ℕ) → all_below n (m ∷ ms) ≡ true → m < n
head_below n m ms h = ltb-true m n (both_parts (nat_lt m n) (all_below n ms) h).0

tail_below : (n m : ℕ) (ms : List ℕ) → all_below n (m ∷ ms) ≡ true → all_below n ms ≡ true
tail_below n m ms h = (both_parts (nat_lt m n) (all_below n ms) h).1

events_below : (n : ℕ) (events : List Event) → all_below n (map (λ (e : Event). e.signal) events) ≡ true → EachSignalBelow n events
events_below n [] h k e at = cc
events_below n (f ∷ events) h zero e at = subst (λ (g : Event). g.signal < n) (same_of f e at) (head_below n f.signal (map (λ (g : Event). g.signal) events) h)
events_below n (f ∷ events) h (suc k) e at = events_below n events (tail_below n f.signal (map (λ (g : Event). g.signal) events) h) k e at

is_there : (o : Option Target) (t : Target) → o ≡ Some t → is_some o ≡ true
is_there None t h = cc
is_there (Some s) t h = refl

module _ (names : ProcessNames) (targets : AssignTargets) (each : EachProcess) (a : Arena) (lawful : IsLawful a) (fit : list_all fits_process (design_of a).processes ≡ true) (p : ℕ) (process : Process) (at : slice_get a.processes p ≡ Some process) where
  of_kind : Kind → D.Process
  of_kind k = kind_of (signal_at (arena_signals a)) (tree_of a) (body_of a) process.at k

  fits_kind : (k : Kind) → process.kind ≡ k → fits_process (kind_of (signal_at (arena_signals a)) (tree_of a) (body_of a) process.at k) ≡ true
  fits_kind k is = ap (λ j. fits_process (kind_of (signal_at (arena_signals a)) (tree_of a) (body_of a) process.at j)) (sym is) ∙ all_at fits_process (design_of a).processes p _ fit (each a p process at)

  names_kind : (k : Kind) → process.kind ≡ k
      → (all_below (length a.signals) (kind_signals k) ≡ true) × (all_below (length a.nodes) (kind_expressions k) ≡ true) × (all_below (length a.statements) (kind_statements k) ≡ true)
  names_kind k is =
      let all : kind_names_below (length a.signals) (length a.nodes) (length a.statements) k ≡ true =
      ap (kind_names_below (length a.signals) (length a.nodes) (length a.statements)) (sym is) ∙ names a lawful.names p process at
      in
      let b = both_parts (all_below (length a.signals) (kind_signals k) && all_below (length a.nodes) (kind_expressions k)) (all_below (length a.statements) (kind_statements k)) all in
      let c = both_parts (all_below (length a.signals) (kind_signals k)) (all_below (length a.nodes) (kind_expressions k)) b.0 in
      (c.0, c.1, b.1)

  pub fit_kind : (k : Kind) → process.kind ≡ k → IsFitKind a k
  fit_kind (K.Assign target e port) is =
      let n = (names_kind (K.Assign target e port) is).1 in
      let f = both_parts (fits_target (target_tree (tree_of a target))) (is_fit (tree_of a e)) (fits_kind (K.Assign target e port) is) in
      let found : slice_get a.processes p ≡ Some (record { at = process.at; kind = K.Assign target e port }) = at ∙ ap (λ k. let q : Process = record { at = process.at; kind = k } in Some q) is in
      record {
        target_there = head_below (length a.nodes) target (e ∷ []) n;
        expression_there = head_below (length a.nodes) e [] (tail_below (length a.nodes) target (e ∷ []) n);
        target_fits = record { target = is_there (target_of (tree_of a target)) (target_tree (tree_of a target)) (targets a lawful p process.at target e port found); fits = f.0 };
        expression_fits = f.1;
      }
  fit_kind (K.Block star events statement) is =
      let n = names_kind (K.Block star events statement) is in
      record {
        events_there = events_below (length a.signals) events n.0;
        statement_there = head_below (length a.statements) statement [] n.2;
        statement_fits = fits_kind (K.Block star events statement) is;
      }

-- the initial process of this number in the plain design
pub initial_is : EachInitial → (a : Arena) (k : ℕ) (i : Initial) (x : D.Initial) → slice_get a.initials k ≡ Some i → slice_get (design_of a).initials k ≡ Some x → initial_of (body_of a) i ≡ x
initial_is each a k i x at h = same_initial (initial_of (body_of a) i) x (sym (each a k i at) ∙ h)
  where
    same_initial : (y z : D.Initial) → Some y ≡ Some z → y ≡ z
    same_initial y z e = cc

-- an initial process's statement is there, fits, and names bits of the design
module _ (names : InitialNames) (each : EachInitial) (a : Arena) (lawful : IsLawful a) (k : ℕ) (i : Initial) (at : slice_get a.initials k ≡ Some i) where
  pub initial_there : i.statement < length a.statements
  initial_there = ltb-true i.statement (length a.statements) (names a lawful.names k i at)

  pub initial_fits : list_all fits_initial (design_of a).initials ≡ true → fits_statement (body_of a i.statement) ≡ true
  initial_fits fit = all_at fits_initial (design_of a).initials k (initial_of (body_of a) i) fit (each a k i at)

  pub initial_within : StatementIsWithin → statement_within (D.bit_count (design_of a)) (body_of a i.statement) ≡ true
  initial_within within =
      within (design_of a) lawful.design.bits_numbered (body_of a i.statement) (all_at (is_formed_initial (design_of a)) (design_of a).initials k (initial_of (body_of a) i) lawful.design.initials (each a k i at))

edges_are : (s : ℕ → Signal) (es : List Event) → list_any D.has_edge (map (event_of s) es) ≡ list_any (λ (e : Event). D.is_edge e.edge) es
edges_are s [] = refl
edges_are s (e ∷ es) = ap (λ b. D.is_edge e.edge || b) (edges_are s es)

pub edges_of : (s : ℕ → Signal) (es slice : List Event) (found b : Bool) → slice ≡ es → found ≡ list_any (λ (e : Event). D.is_edge e.edge) slice → found ≡ b → list_any D.has_edge (map (event_of s) es) ≡ b
edges_of s es slice found b same is h = edges_are s es ∙ ap (list_any (λ (e : Event). D.is_edge e.edge)) (sym same) ∙ sym is ∙ h

-- the footprint of a process, by its kind
module _ (bits : BitsOfDesign) (each : EachProcess) (a : Arena) (lawful : IsLawful a) (p : ℕ) (process : Process) (at : slice_get a.processes p ≡ Some process) (k : Kind) (is : process.kind ≡ k) where
  found : slice_get (design_of a).processes p ≡ Some (kind_of (signal_at (arena_signals a)) (tree_of a) (body_of a) process.at k)
  found = each a p process at ∙ ap (λ j. Some (kind_of (signal_at (arena_signals a)) (tree_of a) (body_of a) process.at j)) is

  pub within_design : IsWithin (D.bit_count (design_of a)) (kind_of (signal_at (arena_signals a)) (tree_of a) (body_of a) process.at k)
  within_design = bits (design_of a) lawful.design p (kind_of (signal_at (arena_signals a)) (tree_of a) (body_of a) process.at k) found

  pub if_footprint : {E : Type 0} (r : Result ProcessBits E) → IfOk r (λ b. footprint_of b ≡ footprint_in (D.bit_count (design_of a)) (kind_of (signal_at (arena_signals a)) (tree_of a) (body_of a) process.at k))
      → IfOk r (λ b. footprint_of b ≡ footprint_at (footprints_of (design_of a)) p)
  if_footprint (Ok b) h = h ∙ sym (made_at (footprint_in (D.bit_count (design_of a))) (design_of a).processes p (kind_of (signal_at (arena_signals a)) (tree_of a) (body_of a) process.at k) no_footprint found)
  if_footprint (Err e) h = tt

module _ (bits : BitsOfDesign) (each : EachProcess) (kept a : Arena) (same : kept ≡ a) (lawful : IsLawful a) (p : ℕ) (process : Process) (at : slice_get a.processes p ≡ Some process) where
  pub assign_done : {E : Type 0} (r : Result ProcessBits E) (target e : ℕ) (port : Port) → process.kind ≡ K.Assign target e port
      → ((count place target_place : ℕ) (way : D.Port) → IsWithin count (D.Continuous place way target_place (target_tree (tree_of kept target)) (tree_of kept e))
      → IfOk r (λ b. footprint_of b ≡ footprint_in count (D.Continuous place way target_place (target_tree (tree_of kept target)) (tree_of kept e))))
      → IfOk r (λ b. footprint_of b ≡ footprint_at (footprints_of (design_of a)) p)
  assign_done r target e port is h =
      let P : Arena → Type 0 = λ y. (count place target_place : ℕ) (way : D.Port) → IsWithin count (D.Continuous place way target_place (target_tree (tree_of y target)) (tree_of y e))
      → IfOk r (λ b. footprint_of b ≡ footprint_in count (D.Continuous place way target_place (target_tree (tree_of y target)) (tree_of y e)))
      in
      if_footprint bits each a lawful p process at (K.Assign target e port) is r
      (subst P same h (D.bit_count (design_of a)) process.at (place_of (tree_of a target)) (port_of port) (within_design bits each a lawful p process at (K.Assign target e port) is))

  pub clocked_done : {E : Type 0} (r : Result ProcessBits E) (star : Bool) (events : List Event) (statement : ℕ) → process.kind ≡ K.Block star events statement → list_any D.has_edge (map (event_of (signal_at (arena_signals a))) events) ≡ true
      → ((count place : ℕ) (wild : Bool) (es : List D.Event) → list_any D.has_edge es ≡ true → IsWithin count (D.Always place wild es (body_of kept statement))
      → IfOk r (λ b. footprint_of b ≡ footprint_in count (D.Always place wild es (body_of kept statement))))
      → IfOk r (λ b. footprint_of b ≡ footprint_at (footprints_of (design_of a)) p)
  clocked_done r star events statement is edge h =
      let P : Arena → Type 0 = λ y. (count place : ℕ) (wild : Bool) (es : List D.Event) → list_any D.has_edge es ≡ true → IsWithin count (D.Always place wild es (body_of y statement))
      → IfOk r (λ b. footprint_of b ≡ footprint_in count (D.Always place wild es (body_of y statement)))
      in
      if_footprint bits each a lawful p process at (K.Block star events statement) is r
      (subst P same h (D.bit_count (design_of a)) process.at star (map (event_of (signal_at (arena_signals a))) events) edge (within_design bits each a lawful p process at (K.Block star events statement) is))

  pub combinational_done : {E : Type 0} (r : Result ProcessBits E) (star : Bool) (events slice : List Event) (statement : ℕ) → process.kind ≡ K.Block star events statement → slice ≡ events
      → list_any D.has_edge (map (event_of (signal_at (arena_signals a))) events) ≡ false
      → ((count place : ℕ) → list_any D.has_edge (map (event_of (signal_at (arena_signals kept))) slice) ≡ false → IsWithin count (D.Always place star (map (event_of (signal_at (arena_signals kept))) slice) (body_of kept statement))
      → IfOk r (λ b. footprint_of b ≡ footprint_in count (D.Always place star (map (event_of (signal_at (arena_signals kept))) slice) (body_of kept statement))))
      → IfOk r (λ b. footprint_of b ≡ footprint_at (footprints_of (design_of a)) p)
  combinational_done r star events slice statement is sliced level h =
      let Q : Arena → List Event → Type 0 = λ y es. (count place : ℕ) → list_any D.has_edge (map (event_of (signal_at (arena_signals y))) es) ≡ false → IsWithin count (D.Always place star (map (event_of (signal_at (arena_signals y))) es) (body_of y statement))
      → IfOk r (λ b. footprint_of b ≡ footprint_in count (D.Always place star (map (event_of (signal_at (arena_signals y))) es) (body_of y statement)))
      in
      if_footprint bits each a lawful p process at (K.Block star events statement) is r
      (subst (λ es. Q a es) sliced (subst (λ y. Q y slice) same h) (D.bit_count (design_of a)) process.at level (within_design bits each a lawful p process at (K.Block star events statement) is))

pub block_fits : (kept a : Arena) (k : Kind) (star : Bool) (events : List Event) (statement : ℕ) → kept ≡ a → IsFitKind a k → k ≡ K.Block star events statement → fits_statement (body_of kept statement) ≡ true
block_fits kept a k star events statement same fit is =
    let f : BlockIsFit a events statement = subst (IsFitKind a) is fit in
    subst (λ y. fits_statement (body_of y statement) ≡ true) (sym same) f.statement_fits
