-- What a process of a flat design listens to.
use Rattle.std.proofs.Common.{◌≡◌, ℕ, zero, suc, ◌+◌, ◌<◌, ◌≤◌, Bool, true, false, ◌&&◌, ◌||◌, if◌then◌else◌, List, [], ◌∷◌, ◌++◌, map, take, replicate, length, refl, sym, ap, ap₂, ◌∙◌, subst, arith, append-nil, Some, None}
use Rattle.std.proofs.lemmas.List.{length-replicate, take_all}
use Rattle.std.specs.Prelude.{slice_get, nat_lt, Result, Ok, Err, OnOk}
use Rattle.std.proofs.lemmas.Bool.{and_parts, ltb-true}
use Rattle.std.specs.List.{list_any}
use Rattle.vs_base.specs.Events.{is_edge}
use Rattle.vs_design.specs.Expressions as E
use Rattle.vs_design.specs.Clocks.{first_clock}
use Rattle.vs_design.specs.Designs as D
use Rattle.vs_flat.specs.declared.processes.Event.{Event}
use Rattle.vs_flat.specs.declared.processes.Process.{Process}
use Rattle.vs_flat.specs.declared.processes.Port.{Port}
use Rattle.vs_flat.specs.declared.processes.Kind.{Kind}
use Rattle.vs_flat.specs.declared.processes.Kind.TheVariants as K
use Rattle.vs_flat.specs.Arena.{Arena}
use Rattle.vs_flat.specs.Events.{is_edge_event}
use Rattle.vs_flat.specs.Ports.{port_of}
use Rattle.vs_flat.specs.Targets.{place_of}
use Rattle.vs_flat.specs.Trees.{signal_at, tree_at, statement_at, target_tree}
use Rattle.vs_flat.specs.DesignOf.{kind_of, process_of, event_of, arena_signals, arena_trees, arena_statements, design_of}
use Rattle.vs_flat.specs.Named.{all_below, kind_signals, kind_expressions, kind_statements, kind_names_below}
use Rattle.vs_flat.specs.Lawful.{NamesEarlier}
use Rattle.vs_flat.specs.Laws.{EachProcess, ProcessNames}
use Rattle.vs_reads.specs.Footprint.{Footprint, footprints_of, reads_at, waits_at}
use Rattle.vs_reads.specs.Laws.{EachIsOfItsProcess}
use Rattle.vs_events.specs.declared.listener.Listener.{Listener}
use Rattle.vs_events.specs.declared.listener.Change.TheVariants as C
use Rattle.vs_events.specs.Wired.{Sensitivity, after_listen, after_listens}
use Rattle.vs_queue.specs.There.{AllThere}
use Rattle.vs_queue.specs.Listens.{to_bit, to_event, block_listens, process_listens, listens_from, listeners_of}
use Rattle.vs_queue.specs.Spare.{value_count, has_keeper, keeper_at}
use Rattle.vs_queue.proofs.Listened.{both_listen, listens_length, one_process_more}

some_is : {A : Type 0} (x y : A) → Some x ≡ Some y → x ≡ y
some_is x y h = cc

pub edges_are : (signal : ℕ → E.Signal) (es : List Event) → list_any is_edge_event es ≡ list_any D.has_edge (map (event_of signal) es)
edges_are signal [] = refl
edges_are signal (e ∷ es) = ap (λ c. is_edge e.edge || c) (edges_are signal es)

module _ (trees : EachProcess) (law : EachIsOfItsProcess) (a : Arena) (p : ℕ) (q : Process) (at : slice_get a.processes p ≡ Some q) where
  abbrev d : D.Design
  d = design_of a

  abbrev count : ℕ
  count = D.bit_count (design_of a)

  plain : (k : Kind) → q.kind ≡ k → slice_get d.processes p ≡ Some (kind_of (signal_at (arena_signals a)) (tree_at (arena_trees a)) (statement_at (arena_statements a)) q.at k)
  plain k is = subst (λ (j : Kind). slice_get d.processes p ≡ Some (kind_of (signal_at (arena_signals a)) (tree_at (arena_trees a)) (statement_at (arena_statements a)) q.at j)) is (trees a p q at)

  -- an assign to what it reads
  pub assign_listens : (fs : List Footprint) → fs ≡ footprints_of d → (target e : ℕ) (port : Port) → q.kind ≡ K.Assign target e port → (x : D.Process) → slice_get d.processes p ≡ Some x → map (to_bit p) (reads_at fs p) ≡ process_listens count p x
  assign_listens fs same target e port is x h =
      let y = D.Continuous q.at (port_of port) (place_of (tree_at (arena_trees a) target)) (target_tree (tree_at (arena_trees a) target)) (tree_at (arena_trees a) e) in
      let there = plain (K.Assign target e port) is in
      ap (λ (gs : List Footprint). map (to_bit p) (reads_at gs p)) same ∙ ap (map (to_bit p)) (law d p y there).reads ∙ ap (process_listens count p) (some_is y x (sym there ∙ h))

  -- a clocked block to its events
  pub events_listen : (star : Bool) (events : List Event) (s : ℕ) → q.kind ≡ K.Block star events s → (x : D.Process) → slice_get d.processes p ≡ Some x → list_any is_edge_event events ≡ true
      → map (to_event p) (map (event_of (signal_at (arena_signals a))) events) ≡ process_listens count p x
  events_listen star events s is x h edge =
      let es = map (event_of (signal_at (arena_signals a))) events in
      let y = D.Always q.at star es (statement_at (arena_statements a) s) in
      let there = plain (K.Block star events s) is in
      sym (ap (λ c. block_listens count p c y es) (sym (edges_are (signal_at (arena_signals a)) events) ∙ edge)) ∙ ap (process_listens count p) (some_is y x (sym there ∙ h))

  -- and another one to what it waits on
  pub waits_listen : (fs : List Footprint) → fs ≡ footprints_of d → (star : Bool) (events : List Event) (s : ℕ) → q.kind ≡ K.Block star events s → (x : D.Process) → slice_get d.processes p ≡ Some x → list_any is_edge_event events ≡ false
      → map (to_bit p) (waits_at fs p) ≡ process_listens count p x
  waits_listen fs same star events s is x h edge =
      let es = map (event_of (signal_at (arena_signals a))) events in
      let y = D.Always q.at star es (statement_at (arena_statements a) s) in
      let there = plain (K.Block star events s) is in
      ap (λ (gs : List Footprint). map (to_bit p) (waits_at gs p)) same ∙ ap (map (to_bit p)) (law d p y there).waits
      ∙ sym (ap (λ c. block_listens count p c y es) (sym (edges_are (signal_at (arena_signals a)) events) ∙ edge)) ∙ ap (process_listens count p) (some_is y x (sym there ∙ h))

-- ---- process after process

pub process_at : {A : Type 0} (xs : List A) (k : ℕ) → k < length xs → (x : A) × (slice_get xs k ≡ Some x)
process_at [] k h = absurd (omega (arith, h))
process_at (x ∷ xs) zero h = (x, refl)
process_at (x ∷ xs) (suc k) h = process_at xs k (omega (arith, h))

-- the listeners of the first processes, for so many bits
pub record AreWired (size count : ℕ) (ps : List D.Process) (wiring : List (List Listener)) (k : ℕ) : Type 0 where
  pub told : wiring ≡ after_listens (replicate size []) (listens_from count 0 (take k ps))
  pub long : length wiring ≡ size

pub wired_more : (size count : ℕ) (ps : List D.Process) (wiring next : List (List Listener)) (k : ℕ) → k < length ps → ((x : D.Process) → slice_get ps k ≡ Some x → next ≡ after_listens wiring (process_listens count k x)) → AreWired size count ps wiring k → AreWired size count ps next (k + 1)
wired_more size count ps wiring next k l is r =
    let x = process_at ps k l in
    let now = is x.0 x.1 in
    record {
      told = now ∙ ap (λ (w : List (List Listener)). after_listens w (process_listens count k x.0)) r.told ∙ sym (both_listen (listens_from count 0 (take k ps)) (process_listens count k x.0) (replicate size []))
          ∙ ap (after_listens (replicate size [])) (sym (one_process_more count k ps x.0 x.1));
      long = ap length now ∙ listens_length (process_listens count k x.0) wiring ∙ r.long;
    }

pub wired_all : (size count : ℕ) (ps : List D.Process) (wiring : List (List Listener)) (k : ℕ) → length ps ≤ k → AreWired size count ps wiring k → wiring ≡ after_listens (replicate size []) (listens_from count 0 ps)
wired_all size count ps wiring k l r = r.told ∙ ap (λ (xs : List D.Process). after_listens (replicate size []) (listens_from count 0 xs)) (take_all k ps l)

pub none_wired : (size count : ℕ) (ps : List D.Process) (wiring : List (List Listener)) → wiring ≡ replicate size [] → AreWired size count ps wiring 0
none_wired size count ps wiring is = record { told = is; long = ap length is ∙ length-replicate size [] }

-- the first of some numbers, where there is one
pub first_some : (cs : List ℕ) (c : ℕ) → Some c ≡ slice_get cs 0 → c ≡ first_clock cs
first_some [] c h = cc
first_some (x ∷ cs) c h = cc

pub first_none : (cs : List ℕ) → None ≡ slice_get cs 0 → 0 ≡ first_clock cs
first_none [] h = refl
first_none (x ∷ cs) h = cc

-- the block that keeps what initial processes alone write listens behind them, or there is none
abbrev keeper_entry : D.Design → List ℕ → Sensitivity
keeper_entry d clocks = record { bit = first_clock clocks; listener = record { process = keeper_at d clocks; change = C.Pos } }

abbrev with_entry : D.Design → List ℕ → Bool → List (List Listener)
with_entry d clocks c = after_listens (replicate (value_count d clocks) []) (listens_from (D.bit_count d) 0 d.processes ++ (if c then keeper_entry d clocks ∷ [] else []))

pub keeper_listened : (d : D.Design) (clocks : List ℕ) (wiring now : List (List Listener)) (keeper : Bool) (bit process : ℕ) → keeper ≡ has_keeper d → keeper ≡ true → bit ≡ first_clock clocks → process ≡ keeper_at d clocks
    → wiring ≡ after_listens (replicate (value_count d clocks) []) (listens_from (D.bit_count d) 0 d.processes) → now ≡ after_listen wiring (record { bit = bit; listener = record { process = process; change = C.Pos } }) → now ≡ listeners_of d clocks
keeper_listened d clocks wiring now keeper bit process told there b p is listened =
    listened ∙ ap₂ (λ (x y : ℕ). after_listen wiring (record { bit = x; listener = record { process = y; change = C.Pos } })) b p
    ∙ ap (λ (w : List (List Listener)). after_listen w (keeper_entry d clocks)) is
    ∙ sym (both_listen (listens_from (D.bit_count d) 0 d.processes) (keeper_entry d clocks ∷ []) (replicate (value_count d clocks) []))
    ∙ ap (with_entry d clocks) (sym there ∙ told)

pub keeper_unheard : (d : D.Design) (clocks : List ℕ) (wiring : List (List Listener)) (keeper : Bool) → keeper ≡ has_keeper d → keeper ≡ false → wiring ≡ after_listens (replicate (value_count d clocks) []) (listens_from (D.bit_count d) 0 d.processes) → wiring ≡ listeners_of d clocks
keeper_unheard d clocks wiring keeper told none is =
    is ∙ ap (after_listens (replicate (value_count d clocks) [])) (sym (append-nil (listens_from (D.bit_count d) 0 d.processes))) ∙ ap (with_entry d clocks) (sym none ∙ told)

-- what a process listens to is there, and is told
module _ (trees : EachProcess) (law : EachIsOfItsProcess) (a : Arena) (p : ℕ) (q : Process) (at : slice_get a.processes p ≡ Some q) (wiring : List (List Listener)) where
  abbrev Bounds : Type 0
  Bounds = (x : D.Process) → slice_get (design_of a).processes p ≡ Some x → (count : ℕ) × AllThere (length wiring) count (process_listens (D.bit_count (design_of a)) p x)

  abbrev Told : List Sensitivity → Type 0
  Told ss = (x : D.Process) → slice_get (design_of a).processes p ≡ Some x → ss ≡ process_listens (D.bit_count (design_of a)) p x

  pub listens_there : Bounds → (ss : List Sensitivity) → Told ss → (count : ℕ) × AllThere (length wiring) count ss
  listens_there bounds ss told =
      let x = process_of (signal_at (arena_signals a)) (tree_at (arena_trees a)) (statement_at (arena_statements a)) q in
      let h = bounds x (trees a p q at) in
      (h.0, subst (AllThere (length wiring) h.0) (sym (told x (trees a p q at))) h.1)

pub on_told : {V W : Type 0} (r : Result V W) (now wiring : List (List Listener)) (ss ts : List Sensitivity) → OnOk r (now ≡ after_listens wiring ss) → ss ≡ ts → OnOk r (now ≡ after_listens wiring ts)
on_told (Ok v) now wiring ss ts h is = h ∙ ap (after_listens wiring) is
on_told (Err e) now wiring ss ts h is = h

-- the same events of the same design
pub same_events : (z a : Arena) → z ≡ a → (p : ℕ) (es events : List Event) → es ≡ events → map (to_event p) (map (event_of (signal_at (arena_signals z))) es) ≡ map (to_event p) (map (event_of (signal_at (arena_signals a))) events)
same_events z a same p es events is = ap₂ (λ (y : Arena) (fs : List Event). map (to_event p) (map (event_of (signal_at (arena_signals y))) fs)) same is

-- the signals of a block's events are there
pub events_below : ProcessNames → (a : Arena) → NamesEarlier a → (p : ℕ) (q : Process) (star : Bool) (events : List Event) (s : ℕ) → slice_get a.processes p ≡ Some q → q.kind ≡ K.Block star events s → (k : ℕ) (e : Event) → slice_get events k ≡ Some e → e.signal < length a.signals
events_below law a n p q star events s at is k e got =
    let all = subst (λ (j : Kind). kind_names_below (length a.signals) (length a.nodes) (length a.statements) j ≡ true) is (law a n p q at) in
    let two = and_parts (all_below (length a.signals) (kind_signals (K.Block star events s)) && all_below (length a.nodes) (kind_expressions (K.Block star events s))) (all_below (length a.statements) (kind_statements (K.Block star events s))) all in
    go events k (and_parts (all_below (length a.signals) (kind_signals (K.Block star events s))) (all_below (length a.nodes) (kind_expressions (K.Block star events s))) two.0).0 got
  where
    go : (es : List Event) (k : ℕ) → all_below (length a.signals) (map (λ (x : Event). x.signal) es) ≡ true → slice_get es k ≡ Some e → e.signal < length a.signals
    go [] k h g = absurd (let z : ⊥ = cc in z)
    go (x ∷ es) zero h g =
        let same : x ≡ e = some_is x e g in
        subst (λ (y : Event). y.signal < length a.signals) same (ltb-true x.signal (length a.signals) (and_parts (nat_lt x.signal (length a.signals)) (all_below (length a.signals) (map (λ (y : Event). y.signal) es)) h).0)
    go (x ∷ es) (suc k) h g = go es k (and_parts (nat_lt x.signal (length a.signals)) (all_below (length a.signals) (map (λ (y : Event). y.signal) es)) h).1 g
