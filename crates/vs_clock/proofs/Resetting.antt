-- The resets of processes.
use Rattle.std.proofs.Common.{◌≡◌, ℕ, suc, ◌+◌, ◌≤◌, ◌<◌, Bool, true, false, not, List, [], ◌∷◌, ◌++◌, ◌||◌, ◌==◌, refl, sym, ap, ◌∙◌, subst, eqb-true, eq-eqb, get_or, map, filter, length, take, set, arith, get_or-set_other, get_or-set_same, inl, inr, Some, None, Option, is_some, if◌then◌else◌, find, ◌≢◌}
use Rattle.std.specs.Prelude.{slice_get, replicate}
use Rattle.std.specs.List.{list_any}
use Rattle.std.proofs.lemmas.Option.{slice_get_within, get_or_from_slice_get, slice_get-get_or}
use Rattle.std.proofs.Math.ListN.{get_or-append, length-set}
use Rattle.std.proofs.lemmas.Bool.{cases_lt}
use Rattle.std.proofs.lemmas.List.{take_more, get_or_past, get_or-replicate, length-replicate}
use Rattle.std.proofs.lemmas.List.Folds.{list_any-append}
use Rattle.std.proofs.Math.Seq.{get_or-append_seam}
use Rattle.vs_net.specs.Network as N
use Rattle.vs_design.specs.Statements.{Statement}
use Rattle.vs_design.specs.Designs.{Process, Design, bit_count}
use Rattle.vs_design.specs.Designs as D
use Rattle.vs_design.specs.Footprints.{contains}
use Rattle.vs_design.specs.Clocks.{clock_nets, root_of, one_bit_inputs, Events, ByClock, ByBoth, events_of}
use Rattle.vs_design.specs.Resets.{reset_branch, reset_with, reset_by, reset_of, has_form, has_root, reset_inputs}
use Rattle.vs_design.specs.Elaborated.{IsLawfulDesign}
use Rattle.vs_flat.specs.declared.processes.Event.{Event}
use Rattle.vs_flat.specs.declared.processes.Process.{Process as Flat}
use Rattle.vs_flat.specs.declared.processes.Kind.TheVariants as K
use Rattle.vs_flat.specs.declared.processes.Port.{Port}
use Rattle.vs_flat.specs.Arena.{Arena}
use Rattle.vs_flat.specs.Laws.{EachProcess}
use Rattle.vs_flat.specs.Trees.{signal_at, statement_at}
use Rattle.vs_flat.specs.DesignOf.{event_of, arena_signals, arena_statements, design_of}
use Rattle.vs_clock.specs.declared.resets.Reset.{Reset}
use Rattle.vs_clock.specs.declared.resets.BlockReset.{BlockReset}
use Rattle.vs_clock.specs.declared.resets.BlockReset.TheVariants as B
use Rattle.vs_clock.specs.Found.{IsEventReset, other_form, IsBlockReset}
use Rattle.vs_clock.specs.Resets.{branch_by, branch_of, plain_reset, IsResetOf, IsReset, reset_at, AreAllResets, is_from, has_input, HasInputs}
use Rattle.vs_clock.specs.Tests.{NoneBefore, IsFirst}
use Rattle.vs_reads.proofs.Tests.{by_test, either_way}
use Rattle.vs_reads.proofs.ByKind.{kind_in, kind_is, process_same}
use Rattle.vs_clock.proofs.Ruled.{none_more, none_is}
use Rattle.vs_clock.proofs.Finding.{reset_below}
use Rattle.vs_reads.proofs.Numbered.{process_there}

-- ---- by a process

pub assign_absent : EachProcess → (a : Arena) (p : ℕ) (r : Flat) (target e : ℕ) (port : Port) → slice_get a.processes p ≡ Some r → r.kind ≡ K.Assign target e port → (c : List ℕ) (x : Process) → slice_get (design_of a).processes p ≡ Some x → IsBlockReset a c x B.Absent
assign_absent each a p r target e port i h c x f =
    subst (λ (z : Process). IsBlockReset a c z B.Absent) (process_same (kind_in a r.at (K.Assign target e port)) x (slice_get (design_of a).processes p) (kind_is each a p r (K.Assign target e port) i h) f) (refl, refl)

-- what its events tell of a block
record IsBy (a : Arena) (c : List ℕ) (x : Process) (o : Option Events) (s : Statement) : Type 0 where
  pub form : other_form a c x ≡ not (has_form o s)
  pub reset : reset_of (design_of a) c x ≡ reset_by (root_of (design_of a) c) o s
  pub branch : branch_of (design_of a) c x ≡ branch_by o s

by_events : EachProcess → (a : Arena) (p : ℕ) (r : Flat) (star : Bool) (events : List Event) (statement : ℕ) → slice_get a.processes p ≡ Some r → r.kind ≡ K.Block star events statement → (c : List ℕ) (o : Option Events)
    → events_of (clock_nets (design_of a) c) (root_of (design_of a) c) (map (event_of (signal_at (arena_signals a))) events) ≡ o → (x : Process) → slice_get (design_of a).processes p ≡ Some x → IsBy a c x o (statement_at (arena_statements a) statement)
by_events each a p r star events statement i h c o e x f =
    subst (λ (z : Process). IsBy a c z o (statement_at (arena_statements a) statement)) (process_same (kind_in a r.at (K.Block star events statement)) x (slice_get (design_of a).processes p) (kind_is each a p r (K.Block star events statement) i h) f)
    (record {
      form = ap {B = Bool} (λ o. not (has_form o (statement_at (arena_statements a) statement))) e;
      reset = ap (λ o. reset_by (root_of (design_of a) c) o (statement_at (arena_statements a) statement)) e;
      branch = ap (λ o. branch_by o (statement_at (arena_statements a) statement)) e;
    })

pub none_absent : EachProcess → (a : Arena) (p : ℕ) (r : Flat) (star : Bool) (events : List Event) (statement : ℕ) → slice_get a.processes p ≡ Some r → r.kind ≡ K.Block star events statement → (c : List ℕ)
    → events_of (clock_nets (design_of a) c) (root_of (design_of a) c) (map (event_of (signal_at (arena_signals a))) events) ≡ None → (x : Process) → slice_get (design_of a).processes p ≡ Some x → IsBlockReset a c x B.Absent
none_absent each a p r star events statement i h c e x f =
    let b = by_events each a p r star events statement i h c None e x f in (b.form, b.reset)

pub clock_absent : EachProcess → (a : Arena) (p : ℕ) (r : Flat) (star : Bool) (events : List Event) (statement : ℕ) → slice_get a.processes p ≡ Some r → r.kind ≡ K.Block star events statement → (c : List ℕ)
    → (clock : D.Event) × (events_of (clock_nets (design_of a) c) (root_of (design_of a) c) (map (event_of (signal_at (arena_signals a))) events) ≡ Some (ByClock clock)) → (x : Process) → slice_get (design_of a).processes p ≡ Some x → IsBlockReset a c x B.Absent
clock_absent each a p r star events statement i h c e x f =
    let b = by_events each a p r star events statement i h c (Some (ByClock e.0)) e.1 x f in (b.form, b.reset)

by_reset : (a : Arena) (c : List ℕ) (x : Process) (clock reset : D.Event) (s : Statement) (r : BlockReset) → IsBy a c x (Some (ByBoth clock reset)) s → IsEventReset a c reset s r → IsBlockReset a c x r
by_reset a c x clock reset s B.Formless b k = b.form ∙ ap {B = Bool} (λ o. not (is_some o)) k
by_reset a c x clock reset s B.Absent b k = (b.form ∙ ap {B = Bool} not k.0, b.reset ∙ k.1)
by_reset a c x clock reset s (B.Present r) b k = (b.form ∙ ap {B = Bool} (λ o. not (is_some o)) k.0, record { is = b.reset ∙ k.1; branch = b.branch ∙ k.0; edge = k.2; there = k.3 })

pub reset_found : EachProcess → (a : Arena) (p : ℕ) (r : Flat) (star : Bool) (events : List Event) (statement : ℕ) → slice_get a.processes p ≡ Some r → r.kind ≡ K.Block star events statement → (c : List ℕ) (reset : D.Event)
    → (clock : D.Event) × (events_of (clock_nets (design_of a) c) (root_of (design_of a) c) (map (event_of (signal_at (arena_signals a))) events) ≡ Some (ByBoth clock reset))
    → (o : BlockReset) → IsEventReset a c reset (statement_at (arena_statements a) statement) o → (x : Process) → slice_get (design_of a).processes p ≡ Some x → IsBlockReset a c x o
reset_found each a p r star events statement i h c reset e o k x f =
    by_reset a c x e.0 reset (statement_at (arena_statements a) statement) o (by_events each a p r star events statement i h c (Some (ByBoth e.0 reset)) e.1 x f) k

-- ---- all processes

-- of those before p
pub record AreBefore (a : Arena) (c : List ℕ) (p : ℕ) (resets : List (Option Reset)) : Type 0 where
  pub formed : NoneBefore (design_of a) (other_form a c) p
  pub each : (q : ℕ) (x : Process) → q < p → slice_get (design_of a).processes q ≡ Some x → IsReset a c x (reset_at resets q)

pub one_more : (a : Arena) (c : List ℕ) (p : ℕ) (resets : List (Option Reset)) (r : Option Reset) (x : Process) → length resets ≡ p → slice_get (design_of a).processes p ≡ Some x → other_form a c x ≡ false → IsReset a c x r → AreBefore a c p resets → AreBefore a c (p + 1) (resets ++ r ∷ [])
one_more a c p resets r x l e h k b =
    record { formed = none_more (design_of a) (other_form a c) p x e h b.formed; each = each }
  where
    same_other : (q : ℕ) → (q == p) ≡ false → q ≡ p → ⊥
    same_other q h e = either_way (q == p) (subst (λ m. (q == m) ≡ true) e (eq-eqb q q refl)) h

    less : (q : ℕ) → q < p + 1 → (q == p) ≡ false → q < p
    less q m s = let ne : q ≢ p = same_other q s in omega (arith, m)

    each : (q : ℕ) (y : Process) → q < p + 1 → slice_get (design_of a).processes q ≡ Some y → IsReset a c y (reset_at (resets ++ r ∷ []) q)
    each q y m f =
        by_test (q == p)
        (λ s. subst (λ o. IsReset a c y o) (sym (get_or-append_seam resets r [] None) ∙ ap (λ n. reset_at (resets ++ r ∷ []) n) (l ∙ sym (eqb-true q p s)))
        (subst (λ (z : Process). IsReset a c z r) (process_same x y (slice_get (design_of a).processes p) e (subst (λ n. slice_get (design_of a).processes n ≡ Some y) (eqb-true q p s) f)) k))
        (λ s. let n = less q m s in subst (λ o. IsReset a c y o) (sym (get_or-append resets (r ∷ []) None q (subst (λ m. q < m) (sym l) n))) (b.each q y n f))

pub all_resets : (a : Arena) (c : List ℕ) (p : ℕ) (resets : List (Option Reset)) → length resets ≡ p → p ≡ length (design_of a).processes → AreBefore a c p resets → IsFirst (design_of a) (other_form a c) None × AreAllResets a c resets
all_resets a c p resets l e b = (
  none_is (design_of a) (other_form a c) p (omega (arith, e)) b.formed,
  record { count = l ∙ e; each = λ q x f. b.each q x (let k = slice_get_within (design_of a).processes q x f in omega (arith, k, e)) f },
)

-- ---- inputs

-- what is found is in the list, and passes the test
found_in : (test : ℕ → Bool) (bs : List ℕ) (b : ℕ) → find test bs ≡ Some b → contains bs b ≡ true
found_in test [] b h = cc
found_in test (c ∷ bs) b h =
    by_test (test c)
    (λ e. head (some_same c b (sym (ap {B = Option ℕ} (λ t. if t then Some c else find test bs) e) ∙ h)))
    (λ e. tail (b == c) (found_in test bs b (sym (ap {B = Option ℕ} (λ t. if t then Some c else find test bs) e) ∙ h)))
  where
    some_same : (x y : ℕ) → Some x ≡ Some y → x ≡ y
    some_same x y e = cc

    head : c ≡ b → ((b == c) || contains bs b) ≡ true
    head e = ap {B = Bool} (λ t. t || contains bs b) (eq-eqb b c (sym e))

    tail : (t : Bool) → contains bs b ≡ true → (t || contains bs b) ≡ true
    tail true e = refl
    tail false e = e

-- the input of a reset is the root of its net
root_is : (a : Arena) (c : List ℕ) (x : Process) (r : Reset) → IsResetOf a c x r → contains (one_bit_inputs (design_of a) c) r.input ≡ true
root_is a c x r h = by_process x h.is
  where
    d : Design
    d = design_of a

    by_root : (e : D.Event) (i : Option ℕ) (t : Option Statement) → root_of d c e.signal.first ≡ i → reset_with e i t ≡ Some (plain_reset a r) → contains (one_bit_inputs d c) r.input ≡ true
    by_root e None t g k = cc
    by_root e (Some i) None g k = cc
    by_root e (Some i) (Some t) g k = subst (λ n. contains (one_bit_inputs d c) n ≡ true) (input_same _ _ k) (found_in (λ i. contains (clock_nets d (i ∷ [])) e.signal.first) (one_bit_inputs d c) i g)
      where
        input_same : (u v : N.Reset) → Some u ≡ Some v → u.input ≡ v.input
        input_same u v e = cc

    by_events : (o : Option Events) (s : Statement) → reset_by (root_of d c) o s ≡ Some (plain_reset a r) → contains (one_bit_inputs d c) r.input ≡ true
    by_events None s k = cc
    by_events (Some (ByClock clock)) s k = cc
    by_events (Some (ByBoth clock reset)) s k = by_root reset (root_of d c reset.signal.first) (reset_branch reset.edge reset.signal.first s) refl k

    by_process : (x : Process) → reset_of d c x ≡ Some (plain_reset a r) → contains (one_bit_inputs d c) r.input ≡ true
    by_process (D.Continuous place port target_place target e) k = cc
    by_process (D.Always place star events s) k = by_events (events_of (clock_nets d c) (root_of d c) events) s k

pub have_inputs : (a : Arena) → IsLawfulDesign (design_of a) → (c : List ℕ) (resets : List (Option Reset)) → AreAllResets a c resets → HasInputs (bit_count (design_of a)) resets
have_inputs a l c resets h k r e =
    let d = design_of a in
    let m : k < length d.processes = subst (λ n. k < n) h.count (slice_get_within resets k (Some r) e) in
    let x = process_there d.processes k m in
    reset_below d l c r.input (root_is a c x.0 r (subst (λ o. IsReset a c x.0 o) (get_or_from_slice_get resets k (Some r) None e) (h.each k x.0 x.1)))

-- the inputs of the resets are those of the processes
root_same : (a : Arena) (c : List ℕ) (i : ℕ) (x : Process) (r : Option Reset) → IsReset a c x r → has_root i (reset_of (design_of a) c x) ≡ is_from i r
root_same a c i x None h = ap {B = Bool} (has_root i) h
root_same a c i x (Some r) h = ap {B = Bool} (has_root i) h.is

any_pairs : (f : Process → Bool) (g : Option Reset → Bool) (ps : List Process) (rs : List (Option Reset)) → length rs ≡ length ps → ((p : ℕ) (x : Process) → slice_get ps p ≡ Some x → f x ≡ g (get_or rs p None)) → list_any f ps ≡ list_any g rs
any_pairs f g [] [] l h = refl
any_pairs f g [] (r ∷ rs) l h = absurd (omega (arith, l))
any_pairs f g (x ∷ ps) [] l h = absurd (omega (arith, l))
any_pairs f g (x ∷ ps) (r ∷ rs) l h = ap {B = Bool} (λ t. t || list_any f ps) (h 0 x refl) ∙ ap {B = Bool} (λ t. g r || t) (any_pairs f g ps rs (omega (arith, l)) (λ p y e. h (suc p) y e))

pub input_same : (a : Arena) (c : List ℕ) (resets : List (Option Reset)) → AreAllResets a c resets → (i : ℕ) → has_input resets i ≡ list_any (λ x. has_root i (reset_of (design_of a) c x)) (design_of a).processes
input_same a c resets h i = sym (any_pairs (λ x. has_root i (reset_of (design_of a) c x)) (is_from i) (design_of a).processes resets h.count (λ p x e. root_same a c i x (reset_at resets p) (h.each p x e)))

filter_same : (f g : ℕ → Bool) → ((b : ℕ) → f b ≡ g b) → (bs : List ℕ) → filter f bs ≡ filter g bs
filter_same f g h [] = refl
filter_same f g h (b ∷ bs) = ap {B = List ℕ} (λ t. if t then (b ∷ filter f bs) else filter f bs) (h b) ∙ ap {B = List ℕ} (λ (zs : List ℕ). if g b then (b ∷ zs) else zs) (filter_same f g h bs)

pub inputs_are : (a : Arena) (c : List ℕ) (resets : List (Option Reset)) (f : ℕ → Bool) → AreAllResets a c resets → ((b : ℕ) → f b ≡ has_input resets b) → filter f (one_bit_inputs (design_of a) c) ≡ reset_inputs (design_of a) c
inputs_are a c resets f h k = filter_same f (λ i. list_any (λ x. has_root i (reset_of (design_of a) c x)) (design_of a).processes) (λ b. k b ∙ input_same a c resets h b) (one_bit_inputs (design_of a) c)

-- ---- marks

any_take : (f : Option Reset → Bool) (rs : List (Option Reset)) (i : ℕ) → i < length rs → list_any f (take (i + 1) rs) ≡ (list_any f (take i rs) || f (get_or rs i None))
any_take f rs i h = ap {B = Bool} (list_any f) (take_more rs i None h) ∙ list_any-append f (take i rs) (get_or rs i None ∷ []) ∙ ap {B = Bool} (λ t. list_any f (take i rs) || t) (or_nothing (f (get_or rs i None)))
  where
    or_nothing : (a : Bool) → (a || false) ≡ a
    or_nothing true = refl
    or_nothing false = refl

pub input_here : (n : ℕ) (rs : List (Option Reset)) (i : ℕ) (r : Reset) → HasInputs n rs → i < length rs → get_or rs i None ≡ Some r → r.input < n
input_here n rs i r h l e = h i r (slice_get-get_or rs i None l ∙ ap Some e)

pub unmarked : (n b : ℕ) → get_or (replicate n false) b false ≡ false
unmarked n b = elim (cases_lt b n) [ inl h ↦ get_or-replicate n b false false h | inr h ↦ get_or_past (replicate n false) b false (subst (λ m. m ≤ b) (sym (length-replicate n false)) h) ]

pub none_marked : (ms : List Bool) (rs : List (Option Reset)) (i : ℕ) → i < length rs → get_or rs i None ≡ None → ((b : ℕ) → get_or ms b false ≡ has_input (take i rs) b) → (b : ℕ) → get_or ms b false ≡ has_input (take (i + 1) rs) b
none_marked ms rs i l e h b = h b ∙ sym (any_take (is_from b) rs i l ∙ ap {B = Bool} (λ o. has_input (take i rs) b || is_from b o) e ∙ or_nothing (has_input (take i rs) b))
  where
    or_nothing : (a : Bool) → (a || false) ≡ a
    or_nothing true = refl
    or_nothing false = refl

pub input_marked : (n : ℕ) (ms : List Bool) (rs : List (Option Reset)) (i : ℕ) (r : Reset) → i < length rs → get_or rs i None ≡ Some r → r.input < n → length ms ≡ n → ((b : ℕ) → get_or ms b false ≡ has_input (take i rs) b)
    → (length (set ms r.input true) ≡ n) × ((b : ℕ) → get_or (set ms r.input true) b false ≡ has_input (take (i + 1) rs) b)
input_marked n ms rs i r l e k m h = (length-set ms r.input true ∙ m, each)
  where
    more : (b : ℕ) → has_input (take (i + 1) rs) b ≡ (has_input (take i rs) b || (b == r.input))
    more b = any_take (is_from b) rs i l ∙ ap {B = Bool} (λ o. has_input (take i rs) b || is_from b o) e

    or_true : (a : Bool) → (a || true) ≡ true
    or_true true = refl
    or_true false = refl

    or_false : (a : Bool) → (a || false) ≡ a
    or_false true = refl
    or_false false = refl

    not_same : (b : ℕ) → (b == r.input) ≡ false → b ≢ r.input
    not_same b s e = either_way (b == r.input) (eq-eqb b r.input e) s

    each : (b : ℕ) → get_or (set ms r.input true) b false ≡ has_input (take (i + 1) rs) b
    each b =
        by_test (b == r.input)
        (λ s. ap (λ m. get_or (set ms r.input true) m false) (eqb-true b r.input s) ∙ get_or-set_same ms r.input true false (subst (λ q. r.input < q) (sym m) k) ∙ sym (more b ∙ ap {B = Bool} (λ t. has_input (take i rs) b || t) s ∙ or_true (has_input (take i rs) b)))
        (λ s. get_or-set_other ms r.input b true false (not_same b s) ∙ h b ∙ sym (more b ∙ ap {B = Bool} (λ t. has_input (take i rs) b || t) s ∙ or_false (has_input (take i rs) b)))
