-- The rules of single processes.
use Rattle.std.proofs.Common.{◌≡◌, ℕ, zero, suc, ◌+◌, ◌≤◌, ◌<◌, Bool, true, false, not, List, [], ◌∷◌, ◌++◌, ◌||◌, ◌&&◌, ◌==◌, refl, sym, ap, ◌∙◌, subst, eqb-true, eq-eqb, get_or, map, length, arith, Some, None, Option, is_some, option_map, if◌then◌else◌, nat_lt, ◌≢◌}
use Rattle.std.specs.Prelude.{slice_get}
use Rattle.std.specs.List.{list_any, list_all}
use Rattle.std.proofs.lemmas.Bool.{ltb-true}
use Rattle.std.proofs.lemmas.Option.{slice_get_within}
use Rattle.std.proofs.lemmas.List.Folds.{list_any-append}
use Rattle.vs_design.specs.Expressions.{Signal}
use Rattle.vs_design.specs.Designs.{Process, has_edge, Design}
use Rattle.vs_design.specs.Designs as D
use Rattle.vs_design.specs.Footprints.{contains, reads_of, waits_of}
use Rattle.vs_design.specs.Clocks.{port_target, is_clock_port, reads_clock, clock_nets, root_of, is_clock_event, is_reset_event, both_events, events_of, has_other_clock, Events, ByClock, ByBoth}
use Rattle.vs_design.specs.Fits.{fits_statement, fits_process}
use Rattle.vs_design.specs.Refusals.{width_refusal}
use Rattle.vs_design.specs.Resets.{has_form, has_other_form}
use Rattle.vs_design.specs.Statements.{Statement}
use Rattle.vs_flat.specs.declared.processes.Event.{Event}
use Rattle.vs_flat.specs.declared.processes.Signal.{Signal as FlatSignal}
use Rattle.vs_flat.specs.declared.processes.Process.{Process as Flat}
use Rattle.vs_flat.specs.declared.processes.Kind.TheVariants as K
use Rattle.vs_flat.specs.declared.processes.Port.{Port}
use Rattle.vs_flat.specs.Arena.{Arena}
use Rattle.vs_flat.specs.Lawful.{NamesEarlier, IsLawful}
use Rattle.vs_flat.specs.Laws.{EachProcess, EachSignal, ProcessNames}
use Rattle.vs_flat.specs.Named.{all_below, kind_names_below}
use Rattle.vs_flat.specs.Trees.{signal_at, statement_at}
use Rattle.vs_flat.specs.DesignOf.{event_of, arena_signals, arena_statements, design_of}
use Rattle.vs_typed.specs.Laws.{EachProcessFits}
use Rattle.vs_clock.specs.Nets.{Labelled, is_clock_bit, AreNets}
use Rattle.vs_clock.specs.declared.events.BlockEvents.{BlockEvents}
use Rattle.vs_clock.specs.Ports.{port_bits}
use Rattle.vs_clock.specs.Tests.{IsFirst, NoneBefore, AreEvents}
use Rattle.vs_flat.specs.Events.{is_edge_event}
use Rattle.vs_reads.proofs.Tests.{by_test, either_way, and_both, contains_head, any_same, any_test}
use Rattle.vs_clock.proofs.Least.{hits, target_hits}
use Rattle.vs_reads.proofs.ByKind.{kind_in, kind_is, process_same}

-- ---- both tests

pub both_hold : (r s a b : Bool) → r ≡ a → r ≡ true → s ≡ b → s ≡ (a && b)
both_hold r s true b h k e = e
both_hold r s false b h k e = either_way r k h

pub first_fails : (r a b : Bool) → r ≡ a → r ≡ false → false ≡ (a && b)
first_fails r true b h k = either_way r h k
first_fails r false b h k = refl

-- ---- events

pub both_first : (nets : List ℕ) (roots : ℕ → Option ℕ) (e f : D.Event) (r : Bool) → r ≡ (is_clock_event nets e && is_reset_event roots f) → r ≡ true → both_events nets roots e f ≡ Some (ByBoth e f)
both_first nets roots e f r h k = ap (λ t. if t then Some (ByBoth e f) else (if is_clock_event nets f && is_reset_event roots e then Some (ByBoth f e) else None)) (sym h ∙ k)

pub both_second : (nets : List ℕ) (roots : ℕ → Option ℕ) (e f : D.Event) (r s : Bool) → r ≡ (is_clock_event nets e && is_reset_event roots f) → r ≡ false → s ≡ (is_clock_event nets f && is_reset_event roots e) → s ≡ true → both_events nets roots e f ≡ Some (ByBoth f e)
both_second nets roots e f r s h k i j =
    ap (λ t. if t then Some (ByBoth e f) else (if is_clock_event nets f && is_reset_event roots e then Some (ByBoth f e) else None)) (sym h ∙ k)
    ∙ ap (λ t. if t then Some (ByBoth f e) else None) (sym i ∙ j)

pub one_clock : (nets : List ℕ) (roots : ℕ → Option ℕ) (signal : ℕ → Signal) (xs : List Event) (d : Event) (r : Bool) → length xs ≡ 1 → r ≡ is_clock_event nets (event_of signal (get_or xs 0 d)) → r ≡ true → events_of nets roots (map (event_of signal) xs) ≡ Some (ByClock (event_of signal (get_or xs 0 d)))
one_clock nets roots signal [] d r l h k = absurd (omega (arith, l))
one_clock nets roots signal (x ∷ []) d r l h k = ap (λ t. if t then Some (ByClock (event_of signal x)) else None) (sym h ∙ k)
one_clock nets roots signal (x ∷ y ∷ xs) d r l h k = absurd (omega (arith, l))

pub one_other : (nets : List ℕ) (roots : ℕ → Option ℕ) (signal : ℕ → Signal) (xs : List Event) (d : Event) (r : Bool) → length xs ≡ 1 → r ≡ is_clock_event nets (event_of signal (get_or xs 0 d)) → r ≡ false → events_of nets roots (map (event_of signal) xs) ≡ None
one_other nets roots signal [] d r l h k = absurd (omega (arith, l))
one_other nets roots signal (x ∷ []) d r l h k = ap (λ t. if t then Some (ByClock (event_of signal x)) else None) (sym h ∙ k)
one_other nets roots signal (x ∷ y ∷ xs) d r l h k = absurd (omega (arith, l))

pub event_there : (xs : List Event) (n k : ℕ) (d : Event) → ((k : ℕ) (e : Event) → slice_get xs k ≡ Some e → e.signal < n) → k < length xs → (get_or xs k d).signal < n
event_there [] n k d h l = absurd (omega (arith, l))
event_there (x ∷ xs) n zero d h l = h zero x refl
event_there (x ∷ xs) n (suc k) d h l = event_there xs n k d (λ k e f. h (suc k) e f) (omega (arith, l))

-- the signals of a block's events
pub events_below : ProcessNames → (a : Arena) → NamesEarlier a → (p : ℕ) (r : Flat) (star : Bool) (events : List Event) (statement : ℕ) → slice_get a.processes p ≡ Some r → r.kind ≡ K.Block star events statement → (k : ℕ) (e : Event) → slice_get events k ≡ Some e → e.signal < length a.signals
events_below law a n p r star events statement i h k e f =
    let c : kind_names_below (length a.signals) (length a.nodes) (length a.statements) (K.Block star events statement) ≡ true = sym (ap (kind_names_below (length a.signals) (length a.nodes) (length a.statements)) h) ∙ law a n p r i in
    let b = (and_both (all_below (length a.signals) (map (λ (e : Event). e.signal) events)) true (and_both (all_below (length a.signals) (map (λ (e : Event). e.signal) events) && true) (nat_lt statement (length a.statements) && true) c).0).0 in
    go events k b f
  where
    go : (events : List Event) (k : ℕ) → all_below (length a.signals) (map (λ (e : Event). e.signal) events) ≡ true → slice_get events k ≡ Some e → e.signal < length a.signals
    go [] k b f = cc
    go (x ∷ xs) zero b f = subst (λ (z : Event). z.signal < length a.signals) (some_same x e f) (ltb-true x.signal (length a.signals) (and_both (nat_lt x.signal (length a.signals)) (all_below (length a.signals) (map (λ (e : Event). e.signal) xs)) b).0)
      where
        some_same : (x y : Event) → Some x ≡ Some y → x ≡ y
        some_same x y e = cc
    go (x ∷ xs) (suc k) b f = go xs k (and_both (nat_lt x.signal (length a.signals)) (all_below (length a.signals) (map (λ (e : Event). e.signal) xs)) b).1 f

-- ---- ports

nothing_in : (zs : List ℕ) → ((t : ℕ) → contains zs t ≡ false) → zs ≡ []
nothing_in [] h = refl
nothing_in (z ∷ zs) h = either_way (contains (z ∷ zs) z) (contains_head z zs) (h z)

something_in : (zs : List ℕ) (t : ℕ) → contains zs t ≡ true → not (length zs == 0) ≡ true
something_in [] t h = cc
something_in (z ∷ zs) t h = by_test (length (z ∷ zs) == 0) (λ e. absurd (let k = eqb-true (length (z ∷ zs)) 0 e in omega (arith, k))) (λ e. ap not e)

pub port_no : (nets : List ℕ) (x : Process) → port_bits x ≡ None → false ≡ is_clock_port nets x
port_no nets x h = sym (ap {B = Bool} (λ (zs : List ℕ). not (length zs == 0)) (nothing_in (port_target nets x) (λ t. target_hits nets x t ∙ ap (hits nets t) h)))

pub port_yes : (nets : List ℕ) (x : Process) (from to : ℕ) (r : Bool) → port_bits x ≡ Some (from, to) → r ≡ contains nets from → r ≡ is_clock_port nets x
port_yes nets x from to true h e = sym (something_in (port_target nets x) to (target_hits nets x to ∙ ap (hits nets to) h ∙ ap {B = Bool} (λ t. t && (to == to)) (sym e) ∙ eq-eqb to to refl))
port_yes nets x from to false h e = sym (ap {B = Bool} (λ (zs : List ℕ). not (length zs == 0)) (nothing_in (port_target nets x) (λ t. target_hits nets x t ∙ ap (hits nets t) h ∙ ap {B = Bool} (λ z. z && (t == to)) (sym e))))

-- ---- reading a clock net

abbrev pub clocks_in : Design → List ℕ → List ℕ → Bool
clocks_in d clocks bits = list_any (contains (clock_nets d clocks)) bits

pub any_clock : (d : Design) (clocks : List ℕ) (n : Labelled) (bits all : List ℕ) (r : Bool) → AreNets d clocks n → ((b : ℕ) → contains bits b ≡ contains all b) → r ≡ list_any (is_clock_bit n) bits → r ≡ clocks_in d clocks all
any_clock d clocks n bits all r a h e = e ∙ any_test (is_clock_bit n) (contains (clock_nets d clocks)) bits (λ b _. a.clock b) ∙ any_same (contains (clock_nets d clocks)) bits all h

pub reads_no : (nets : List ℕ) (x : Process) (r : Bool) → r ≡ is_clock_port nets x → r ≡ true → false ≡ reads_clock nets x
reads_no nets x r h k = sym (ap {B = Bool} (λ t. not t && list_any (contains nets) (reads_of x ++ waits_of x)) (sym h ∙ k))

pub reads_by : (nets : List ℕ) (x : Process) (r s t : Bool) → r ≡ is_clock_port nets x → r ≡ false → s ≡ list_any (contains nets) (reads_of x) → t ≡ list_any (contains nets) (waits_of x) → (s || t) ≡ reads_clock nets x
reads_by nets x r s t h k e f =
    sym (ap {B = Bool} (λ t. not t && list_any (contains nets) (reads_of x ++ waits_of x)) (sym h ∙ k) ∙ list_any-append (contains nets) (reads_of x) (waits_of x) ∙ ap {B = Bool} (λ z. z || list_any (contains nets) (waits_of x)) (sym e) ∙ ap {B = Bool} (λ z. s || z) (sym f))

-- ---- the first

pub none_more : (d : Design) (breaks : Process → Bool) (p : ℕ) (x : Process) → slice_get d.processes p ≡ Some x → breaks x ≡ false → NoneBefore d breaks p → NoneBefore d breaks (p + 1)
none_more d breaks p x e h n q y l f =
    by_test (q == p)
    (λ s. subst (λ (z : Process). breaks z ≡ false) (process_same x y (slice_get d.processes p) e (subst (λ m. slice_get d.processes m ≡ Some y) (eqb-true q p s) f)) h)
    (λ s. n q y (less s) f)
  where
    same_other : (q == p) ≡ false → q ≡ p → ⊥
    same_other h e = either_way (q == p) (subst (λ m. (q == m) ≡ true) e (eq-eqb q q refl)) h

    less : (q == p) ≡ false → q < p
    less s = let ne : q ≢ p = same_other s in omega (arith, l)

pub first_is : (d : Design) (breaks : Process → Bool) (p : ℕ) (x : Process) → slice_get d.processes p ≡ Some x → breaks x ≡ true → NoneBefore d breaks p → IsFirst d breaks (Some p)
first_is d breaks p x e h n = (x, record { is = e; broken = h; before = n })

pub none_is : (d : Design) (breaks : Process → Bool) (p : ℕ) → length d.processes ≤ p → NoneBefore d breaks p → IsFirst d breaks None
none_is d breaks p l n q x e = n q x (let k = slice_get_within d.processes q x e in omega (arith, k, l)) e

-- ---- other clocks

pub events_same : (signal : ℕ → Signal) (events : List Event) → list_any has_edge (map (event_of signal) events) ≡ list_any is_edge_event events
events_same signal [] = refl
events_same signal (e ∷ es) = ap {B = Bool} (λ t. is_edge_event e || t) (events_same signal es)

pub assign_other : EachProcess → (a : Arena) (p : ℕ) (r : Flat) (target e : ℕ) (port : Port) → slice_get a.processes p ≡ Some r → r.kind ≡ K.Assign target e port → (nets : List ℕ) (roots : ℕ → Option ℕ) (x : Process) → slice_get (design_of a).processes p ≡ Some x → false ≡ has_other_clock nets roots x
assign_other each a p r target e port i h nets roots x f = ap {B = Bool} (has_other_clock nets roots) (process_same (kind_in a r.at (K.Assign target e port)) x (slice_get (design_of a).processes p) (kind_is each a p r (K.Assign target e port) i h) f)

block_other : (a : Arena) (place : ℕ) (star : Bool) (events : List Event) (statement : ℕ) (nets : List ℕ) (roots : ℕ → Option ℕ) → has_other_clock nets roots (kind_in a place (K.Block star events statement)) ≡ (list_any is_edge_event events && not (is_some (events_of nets roots (map (event_of (signal_at (arena_signals a))) events))))
block_other a place star events statement nets roots = ap {B = Bool} (λ t. t && not (is_some (events_of nets roots (map (event_of (signal_at (arena_signals a))) events)))) (events_same (signal_at (arena_signals a)) events)

pub other_by : EachProcess → (a : Arena) (p : ℕ) (r : Flat) (star : Bool) (events : List Event) (statement : ℕ) → slice_get a.processes p ≡ Some r → r.kind ≡ K.Block star events statement → (nets : List ℕ) (roots : ℕ → Option ℕ) (edge seen : Bool)
    → edge ≡ list_any is_edge_event events → seen ≡ is_some (events_of nets roots (map (event_of (signal_at (arena_signals a))) events)) → (x : Process) → slice_get (design_of a).processes p ≡ Some x → (edge && not seen) ≡ has_other_clock nets roots x
other_by each a p r star events statement i h nets roots edge seen e s x f =
    ap {B = Bool} (λ t. t && not seen) e ∙ ap {B = Bool} (λ t. list_any is_edge_event events && not t) s ∙ sym (block_other a r.at star events statement nets roots)
    ∙ ap {B = Bool} (has_other_clock nets roots) (process_same (kind_in a r.at (K.Block star events statement)) x (slice_get (design_of a).processes p) (kind_is each a p r (K.Block star events statement) i h) f)

pub not_edge : EachProcess → (a : Arena) (p : ℕ) (r : Flat) (star : Bool) (events : List Event) (statement : ℕ) → slice_get a.processes p ≡ Some r → r.kind ≡ K.Block star events statement → (nets : List ℕ) (roots : ℕ → Option ℕ) → list_any is_edge_event events ≡ false → (x : Process) → slice_get (design_of a).processes p ≡ Some x → false ≡ has_other_clock nets roots x
not_edge each a p r star events statement i h nets roots e x f =
    sym (block_other a r.at star events statement nets roots ∙ ap {B = Bool} (λ t. t && not (is_some (events_of nets roots (map (event_of (signal_at (arena_signals a))) events)))) e)
    ∙ ap {B = Bool} (has_other_clock nets roots) (process_same (kind_in a r.at (K.Block star events statement)) x (slice_get (design_of a).processes p) (kind_is each a p r (K.Block star events statement) i h) f)

pub reads_first : (nets : List ℕ) (x : Process) (r s : Bool) → r ≡ is_clock_port nets x → r ≡ false → s ≡ list_any (contains nets) (reads_of x) → s ≡ true → true ≡ reads_clock nets x
reads_first nets x r true h k e f = reads_by nets x r true (list_any (contains nets) (waits_of x)) h k e refl
reads_first nets x r false h k e f = cc

pub reads_last : (nets : List ℕ) (x : Process) (r s t : Bool) → r ≡ is_clock_port nets x → r ≡ false → s ≡ list_any (contains nets) (reads_of x) → s ≡ false → t ≡ list_any (contains nets) (waits_of x) → t ≡ reads_clock nets x
reads_last nets x r true t h k e f g = cc
reads_last nets x r false t h k e f g = reads_by nets x r false t h k e g

pub has_not : (r : Bool) → not r ≡ true → r ≡ false
has_not true h = cc
has_not false h = refl

pub has_so : (r : Bool) → not r ≡ false → r ≡ true
has_so true h = refl
has_so false h = cc

pub seen_none : (o : Option Events) → o ≡ None → false ≡ is_some o
seen_none o h = sym (ap is_some h)

pub seen_clock : (o : Option Events) → (clock : D.Event) × (o ≡ Some (ByClock clock)) → true ≡ is_some o
seen_clock o h = sym (ap is_some h.1)

pub seen_reset : (o : Option Events) (reset : D.Event) → (clock : D.Event) × (o ≡ Some (ByBoth clock reset)) → true ≡ is_some o
seen_reset o reset h = sym (ap is_some h.1)

-- ---- forms

pub statement_there : ProcessNames → (a : Arena) → NamesEarlier a → (p : ℕ) (r : Flat) (star : Bool) (events : List Event) (statement : ℕ) → slice_get a.processes p ≡ Some r → r.kind ≡ K.Block star events statement → statement < length a.statements
statement_there law a n p r star events statement i h =
    let c : kind_names_below (length a.signals) (length a.nodes) (length a.statements) (K.Block star events statement) ≡ true = sym (ap (kind_names_below (length a.signals) (length a.nodes) (length a.statements)) h) ∙ law a n p r i in
    ltb-true statement (length a.statements) (and_both (nat_lt statement (length a.statements)) true (and_both (all_below (length a.signals) (map (λ (e : Event). e.signal) events) && true) (nat_lt statement (length a.statements) && true) c).1).0

all_at : (f : Process → Bool) (ps : List Process) (p : ℕ) (x : Process) → list_all f ps ≡ true → slice_get ps p ≡ Some x → f x ≡ true
all_at f [] p x h e = cc
all_at f (y ∷ ps) zero x h e = subst (λ z. f z ≡ true) (some_same y x e) (and_both (f y) (list_all f ps) h).0
  where
    some_same : (x y : Process) → Some x ≡ Some y → x ≡ y
    some_same x y e = cc
all_at f (y ∷ ps) (suc p) x h e = all_at f ps p x (and_both (f y) (list_all f ps) h).1 e

pub statement_fits : EachProcessFits → EachProcess → (a : Arena) → IsLawful a → width_refusal (design_of a) ≡ None → (p : ℕ) (r : Flat) (star : Bool) (events : List Event) (statement : ℕ) → slice_get a.processes p ≡ Some r → r.kind ≡ K.Block star events statement → fits_statement (statement_at (arena_statements a) statement) ≡ true
statement_fits fits each a l w p r star events statement i h = all_at fits_process (design_of a).processes p (kind_in a r.at (K.Block star events statement)) (fits (design_of a) l.design w) (kind_is each a p r (K.Block star events statement) i h)

pub assign_form : EachProcess → (a : Arena) (p : ℕ) (r : Flat) (target e : ℕ) (port : Port) → slice_get a.processes p ≡ Some r → r.kind ≡ K.Assign target e port → (nets : List ℕ) (roots : ℕ → Option ℕ) (x : Process) → slice_get (design_of a).processes p ≡ Some x → false ≡ has_other_form nets roots x
assign_form each a p r target e port i h nets roots x f = ap {B = Bool} (has_other_form nets roots) (process_same (kind_in a r.at (K.Assign target e port)) x (slice_get (design_of a).processes p) (kind_is each a p r (K.Assign target e port) i h) f)

-- by its events
pub form_by : EachProcess → (a : Arena) (p : ℕ) (r : Flat) (star : Bool) (events : List Event) (statement : ℕ) → slice_get a.processes p ≡ Some r → r.kind ≡ K.Block star events statement → (nets : List ℕ) (roots : ℕ → Option ℕ) (o : Option Events)
    → events_of nets roots (map (event_of (signal_at (arena_signals a))) events) ≡ o → (x : Process) → slice_get (design_of a).processes p ≡ Some x → not (has_form o (statement_at (arena_statements a) statement)) ≡ has_other_form nets roots x
form_by each a p r star events statement i h nets roots o e x f =
    ap {B = Bool} (λ o. not (has_form o (statement_at (arena_statements a) statement))) (sym e)
    ∙ ap {B = Bool} (has_other_form nets roots) (process_same (kind_in a r.at (K.Block star events statement)) x (slice_get (design_of a).processes p) (kind_is each a p r (K.Block star events statement) i h) f)

pub first_bit_is : EachSignal → (a : Arena) (n : ℕ) (s : FlatSignal) → slice_get a.signals n ≡ Some s → s.first_bit ≡ (signal_at (arena_signals a) n).first
first_bit_is each a n s e = sym (ap (λ (z : Signal). z.first) (each a n s e))

-- what is known of the events of a design is known of the same one
pub moved : (a b : Arena) (nets : Labelled) (arm : BlockEvents) (es fs : List Event) → a ≡ b → es ≡ fs
    → ((n : List ℕ) → AreNets (design_of a) n nets → AreEvents (signal_at (arena_signals a)) arm (events_of (clock_nets (design_of a) n) (root_of (design_of a) n) (map (event_of (signal_at (arena_signals a))) es)))
    → (n : List ℕ) → AreNets (design_of b) n nets → AreEvents (signal_at (arena_signals b)) arm (events_of (clock_nets (design_of b) n) (root_of (design_of b) n) (map (event_of (signal_at (arena_signals b))) fs))
moved a b nets arm es fs e f h =
    subst (λ (c : Arena). (n : List ℕ) → AreNets (design_of c) n nets → AreEvents (signal_at (arena_signals c)) arm (events_of (clock_nets (design_of c) n) (root_of (design_of c) n) (map (event_of (signal_at (arena_signals c))) fs))) e
    (subst (λ (gs : List Event). (n : List ℕ) → AreNets (design_of a) n nets → AreEvents (signal_at (arena_signals a)) arm (events_of (clock_nets (design_of a) n) (root_of (design_of a) n) (map (event_of (signal_at (arena_signals a))) gs))) f h)

-- whether the branch was found
pub found_none : (f : ℕ → Statement) (found : Option ℕ) (r : Bool) (o : Option Statement) → is_some found ≡ not r → option_map f found ≡ o → r ≡ not (is_some o)
found_none f None true o k h = ap {B = Bool} (λ o. not (is_some o)) h
found_none f None false o k h = cc
found_none f (Some n) true o k h = cc
found_none f (Some n) false o k h = ap {B = Bool} (λ o. not (is_some o)) h
