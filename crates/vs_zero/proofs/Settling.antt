-- The turns of processes, and the rule on them.
use Rattle.std.proofs.Common.{◌≡◌, ℕ, zero, suc, ◌+◌, ◌<◌, Bool, true, false, not, List, [], ◌∷◌, ◌&&◌, ◌||◌, ◌==◌, if◌then◌else◌, refl, sym, ap, ap₂, ◌∙◌, subst, Some, None, map, drop, get_or, length, arith, inl, inr, ◌⊎◌, ◌≢◌}
use Rattle.std.specs.Prelude.{slice_get, All}
use Rattle.std.specs.List.{list_any}
use mathlib.Core.Path.{fun_ext}
use Rattle.std.proofs.lemmas.List.{drop_more}
use Rattle.vs_design.specs.Designs.{bit_count, is_clocked, has_edge}
use Rattle.vs_design.specs.Designs as D
use Rattle.vs_design.specs.Footprints.{contains, statement_bits, writes_of, waits_of}
use Rattle.vs_design.specs.Lifted.{Family}
use Rattle.vs_design.specs.LiftedBodies.{assign_sets}
use Rattle.vs_design.specs.Refusals.{block_refusal, width_refusal}
use Rattle.vs_design.specs.Rules.{mixed_in}
use Rattle.vs_design.specs.Selects.{is_lenient, is_lenient_block}
use Rattle.vs_design.specs.Sleepers.{is_sleeping}
use Rattle.vs_design.specs.Statements.{Statement}
use Rattle.vs_design.specs.TimeZero.{Families, block_sets, is_quiet, early_end, late_end, meant_process, settle_early, settle_late, settle_some, families_along, wakes, is_uncertain}
use Rattle.vs_flat.specs.declared.processes.Event.{Event}
use Rattle.vs_flat.specs.declared.processes.Process.{Process}
use Rattle.vs_flat.specs.declared.processes.Kind.TheVariants as K
use Rattle.vs_flat.specs.declared.processes.Port.{Port}
use Rattle.vs_flat.specs.Arena.{Arena}
use Rattle.vs_flat.specs.DesignOf.{arena_signals, arena_trees, design_of, event_of}
use Rattle.vs_flat.specs.Lawful.{IsLawful}
use Rattle.vs_flat.specs.Laws.{EachProcess, ProcessNames}
use Rattle.vs_flat.specs.Trees.{signal_at, tree_at, target_tree}
use Rattle.vs_reads.specs.Footprint.{footprints_of, writes_at, waits_at}
use Rattle.vs_reads.specs.Laws.{HasBitsOf, EachHasItsBits}
use Rattle.vs_sets.specs.Completing.{done}
use Rattle.vs_sets.specs.StatementParts.{statement_of}
use Rattle.vs_sets.proofs.Completing.{done_meant}
use Rattle.vs_typed.specs.Laws.{EachProcessFits}
use Rattle.vs_flat.specs.Events.{is_edge_event}
use Rattle.vs_zero.specs.Blocks.{IsBlockOf, may_wake}
use Rattle.vs_design.specs.Within.{StatementIsWithin}
use Rattle.vs_zero.proofs.ByKind.{block_within, statement_there, process_fits}
use Rattle.vs_reads.proofs.ByKind.{kind_in, kind_is, process_same}
use Rattle.vs_sets.proofs.Families.{same_or_other}
use Rattle.vs_zero.proofs.Unrefused.{clean}

-- ---- the bits of a process

member_at : (bs : List ℕ) (k d : ℕ) → k < length bs → contains bs (get_or bs k d) ≡ true
member_at [] k d h = absurd (omega (arith, h))
member_at (c ∷ bs) zero d h = ap (λ t. t || contains bs c) (self c (same_or_other c c))
  where
    self : (c : ℕ) → (((c == c) ≡ true) × (c ≡ c)) ⊎ (((c == c) ≡ false) × (c ≢ c)) → (c == c) ≡ true
    self c (inl e) = e.0
    self c (inr e) = absurd (e.1 refl)
member_at (c ∷ bs) (suc k) d h = or_right (get_or bs k d == c) (contains bs (get_or bs k d)) (member_at bs k d (omega (arith, h)))
  where
    or_right : (a b : Bool) → b ≡ true → (a || b) ≡ true
    or_right true b k = refl
    or_right false b k = k

pub all_below : (n : ℕ) (bits all : List ℕ) → HasBitsOf n bits all → All (λ b. b < n) bits
all_below n bits all h k d l = h.below (get_or bits k d) (member_at bits k d l)

-- ---- assigns

pub assigned_early : EachProcess → (a : Arena) (p : ℕ) (r : Process) (target e : ℕ) (port : Port) → slice_get a.processes p ≡ Some r → r.kind ≡ K.Assign target e port → (asleep lenient : Bool) (f g : Family) (x : D.Process) → slice_get (design_of a).processes p ≡ Some x
    → g ≡ assign_sets (target_tree (tree_at (arena_trees a) target)) (tree_at (arena_trees a) e) f → g ≡ settle_early asleep lenient (meant_process (design_of a) x) f
assigned_early each a p r target e port i h asleep lenient f g x k s =
    subst (λ (y : D.Process). g ≡ settle_early asleep lenient (meant_process (design_of a) y) f) (process_same (kind_in a r.at (K.Assign target e port)) x (slice_get (design_of a).processes p) (kind_is each a p r (K.Assign target e port) i h) k)
    (s ∙ fun_ext (λ b. refl))

pub assigned_late : EachProcess → (a : Arena) (p : ℕ) (r : Process) (target e : ℕ) (port : Port) → slice_get a.processes p ≡ Some r → r.kind ≡ K.Assign target e port → (asleep : Bool) (f g : Family) (x : D.Process) → slice_get (design_of a).processes p ≡ Some x
    → g ≡ assign_sets (target_tree (tree_at (arena_trees a) target)) (tree_at (arena_trees a) e) f → g ≡ settle_late asleep (meant_process (design_of a) x) f
assigned_late each a p r target e port i h asleep f g x k s =
    subst (λ (y : D.Process). g ≡ settle_late asleep (meant_process (design_of a) y) f) (process_same (kind_in a r.at (K.Assign target e port)) x (slice_get (design_of a).processes p) (kind_is each a p r (K.Assign target e port) i h) k)
    (s ∙ fun_ext (λ b. refl))

-- ---- blocks

-- a block that isn't clocked
pub block_is : StatementIsWithin → EachProcess → ProcessNames → EachProcessFits → EachHasItsBits → (a : Arena) → IsLawful a → width_refusal (design_of a) ≡ None → block_refusal (design_of a) ≡ None
    → (p : ℕ) (r : Process) (star : Bool) (events : List Event) (statement : ℕ) → slice_get a.processes p ≡ Some r → r.kind ≡ K.Block star events statement → is_clocked (kind_in a r.at (K.Block star events statement)) ≡ false
    → (bits : List ℕ) → bits ≡ writes_at (footprints_of (design_of a)) p → IsBlockOf a statement bits
block_is within each names fits has a l w b p r star events statement i h clocked bits e =
    let x = kind_in a r.at (K.Block star events statement) in
    let is = kind_is each a p r (K.Block star events statement) i h in
    let own = (has (design_of a) l.design p x is).writes in
    let mine : HasBitsOf (bit_count (design_of a)) bits (writes_of x) = subst (λ (bs : List ℕ). HasBitsOf (bit_count (design_of a)) bs (writes_of x)) (sym e) own in
    record {
      there = statement_there names a l.names p r star events statement i h;
      fits = process_fits fits each a l w p r (K.Block star events statement) i h;
      unmixed = ap (λ (t : Bool). let s = statement_of a statement in if t then [] else mixed_in false s) (sym clocked) ∙ (clean (design_of a) l.design b p x is).unmixed;
      names = block_within within each a l p r star events statement i h;
      within = all_below (bit_count (design_of a)) bits (writes_of x) mine;
      own = λ b. mine.same b;
    }

pub unclocked : EachProcess → (a : Arena) (p : ℕ) (r : Process) (star : Bool) (events : List Event) (statement : ℕ) → slice_get a.processes p ≡ Some r → r.kind ≡ K.Block star events statement
    → ((x : D.Process) → slice_get (design_of a).processes p ≡ Some x → is_clocked x ≡ false) → is_clocked (kind_in a r.at (K.Block star events statement)) ≡ false
unclocked each a p r star events statement i h settles = settles (kind_in a r.at (K.Block star events statement)) (kind_is each a p r (K.Block star events statement) i h)

-- it is lenient where its statement is
pub lenient_is : EachProcess → (a : Arena) (p : ℕ) (r : Process) (star : Bool) (events : List Event) (statement : ℕ) → slice_get a.processes p ≡ Some r → r.kind ≡ K.Block star events statement → is_clocked (kind_in a r.at (K.Block star events statement)) ≡ false
    → (lenient : Bool) (x : D.Process) → slice_get (design_of a).processes p ≡ Some x → lenient ≡ is_lenient_block x → lenient ≡ is_lenient (statement_of a statement)
lenient_is each a p r star events statement i h clocked lenient x k m =
    m ∙ ap is_lenient_block (sym (process_same (kind_in a r.at (K.Block star events statement)) x (slice_get (design_of a).processes p) (kind_is each a p r (K.Block star events statement) i h) k))
    ∙ ap (λ (t : Bool). not t && is_lenient (statement_of a statement)) clocked

pub ran_early : EachProcess → (a : Arena) (p : ℕ) (r : Process) (star : Bool) (events : List Event) (statement : ℕ) → slice_get a.processes p ≡ Some r → r.kind ≡ K.Block star events statement → is_clocked (kind_in a r.at (K.Block star events statement)) ≡ false
    → (asleep lenient : Bool) (f g : Family) → let t = done lenient a statement in g ≡ (λ b. early_end (contains (statement_bits t) b) asleep lenient (is_quiet t f) (block_sets t f b) (f b))
    → (x : D.Process) → slice_get (design_of a).processes p ≡ Some x → asleep ≡ is_sleeping (design_of a) x → lenient ≡ is_lenient_block x → g ≡ settle_early (is_sleeping (design_of a) x) (is_lenient_block x) (meant_process (design_of a) x) f
ran_early each a p r star events statement i h clocked asleep lenient f g e x k s m =
    let d = design_of a in
    let made = done_meant lenient a statement (lenient_is each a p r star events statement i h clocked lenient x k m) in
    subst (λ t. g ≡ settle_early t (is_lenient_block x) (meant_process d x) f) s
    (subst (λ t. g ≡ settle_early asleep t (meant_process d x) f) m
    (subst (λ (y : D.Process). g ≡ settle_early asleep lenient (meant_process d y) f) (process_same (kind_in a r.at (K.Block star events statement)) x (slice_get d.processes p) (kind_is each a p r (K.Block star events statement) i h) k)
    (subst (λ (t : Statement). g ≡ (λ b. early_end (contains (statement_bits t) b) asleep lenient (is_quiet t f) (block_sets t f b) (f b))) made e ∙ fun_ext (λ b. refl))))

pub ran_late : EachProcess → (a : Arena) (p : ℕ) (r : Process) (star : Bool) (events : List Event) (statement : ℕ) → slice_get a.processes p ≡ Some r → r.kind ≡ K.Block star events statement → is_clocked (kind_in a r.at (K.Block star events statement)) ≡ false
    → (asleep lenient : Bool) (f g : Family) → let t = done lenient a statement in g ≡ (λ b. late_end (contains (statement_bits t) b) asleep (block_sets t f b) (f b))
    → (x : D.Process) → slice_get (design_of a).processes p ≡ Some x → asleep ≡ is_sleeping (design_of a) x → lenient ≡ is_lenient_block x → g ≡ settle_late (is_sleeping (design_of a) x) (meant_process (design_of a) x) f
ran_late each a p r star events statement i h clocked asleep lenient f g e x k s m =
    let d = design_of a in
    let made = done_meant lenient a statement (lenient_is each a p r star events statement i h clocked lenient x k m) in
    subst (λ t. g ≡ settle_late t (meant_process d x) f) s
    (subst (λ (y : D.Process). g ≡ settle_late asleep (meant_process d y) f) (process_same (kind_in a r.at (K.Block star events statement)) x (slice_get d.processes p) (kind_is each a p r (K.Block star events statement) i h) k)
    (subst (λ (t : Statement). g ≡ (λ b. late_end (contains (statement_bits t) b) asleep (block_sets t f b) (f b))) made e ∙ fun_ext (λ b. refl)))

-- ---- one after the other

abbrev pub both : Family → Family → Families
both early late = record { early = early; late = late }

pub along_step : (d : D.Design) (order : List ℕ) (k p : ℕ) (x : D.Process) (f g early late : Family) → k < length order → get_or order k 0 ≡ p → slice_get d.processes p ≡ Some x
    → early ≡ settle_early (is_sleeping d x) (is_lenient_block x) (meant_process d x) f → late ≡ settle_late (is_sleeping d x) (meant_process d x) g → families_along d (drop (k + 1) order) (both early late) ≡ families_along d (drop k order) (both f g)
along_step d order k p x f g early late l e i h j =
    ap₂ (λ s t. families_along d (drop (k + 1) order) (both s t)) h j
    ∙ sym (ap (λ ps. families_along d ps (both f g)) (drop_more order k 0 l) ∙ ap (λ q. families_along d (drop (k + 1) order) (settle_some d (slice_get d.processes q) (both f g))) e ∙ ap (λ o. families_along d (drop (k + 1) order) (settle_some d o (both f g))) i)

-- ---- the rule

pub edges_same : (signal : ℕ → Rattle.vs_design.specs.Expressions.Signal) (events : List Event) → list_any has_edge (map (event_of signal) events) ≡ list_any is_edge_event events
edges_same signal [] = refl
edges_same signal (e ∷ es) = ap {B = Bool} (λ t. is_edge_event e || t) (edges_same signal es)

pub assign_certain : EachProcess → (a : Arena) (p : ℕ) (r : Process) (target e : ℕ) (port : Port) → slice_get a.processes p ≡ Some r → r.kind ≡ K.Assign target e port → (f : Families) (x : D.Process) → slice_get (design_of a).processes p ≡ Some x → false ≡ is_uncertain (design_of a) f x
assign_certain each a p r target e port i h f x k =
    subst (λ (y : D.Process). false ≡ is_uncertain (design_of a) f y) (process_same (kind_in a r.at (K.Assign target e port)) x (slice_get (design_of a).processes p) (kind_is each a p r (K.Assign target e port) i h) k) refl

-- a block is quiet where it isn't lenient and leaves x alone
abbrev pub is_still_block : Statement → Family → Bool
is_still_block s early = not (is_lenient s) && is_quiet s early

-- by the four tests of a block
pub block_by : EachProcess → (a : Arena) (p : ℕ) (r : Process) (star : Bool) (events : List Event) (statement : ℕ) → slice_get a.processes p ≡ Some r → r.kind ≡ K.Block star events statement → (f : Families) (x : D.Process) → slice_get (design_of a).processes p ≡ Some x
    → (edge asleep quiet wake : Bool) → edge ≡ list_any is_edge_event events → asleep ≡ is_sleeping (design_of a) x → quiet ≡ is_still_block (statement_of a statement) f.early → wake ≡ wakes f x
    → (not edge && not asleep && not quiet && not wake) ≡ is_uncertain (design_of a) f x
block_by each a p r star events statement i h f x k edge asleep quiet wake e s q w =
    ap (λ t. not t && not asleep && not quiet && not wake) (e ∙ sym (edges_same (signal_at (arena_signals a)) events))
    ∙ ap₂ (λ t u. not (list_any has_edge (map (event_of (signal_at (arena_signals a))) events)) && not t && not u && not wake) s q
    ∙ ap (λ t. not (list_any has_edge (map (event_of (signal_at (arena_signals a))) events)) && not (is_sleeping (design_of a) x) && not (is_still_block (statement_of a statement) f.early) && not t) w
    ∙ subst (λ (y : D.Process). (not (list_any has_edge (map (event_of (signal_at (arena_signals a))) events)) && not (is_sleeping (design_of a) y) && not (is_still_block (statement_of a statement) f.early) && not (wakes f y)) ≡ is_uncertain (design_of a) f y)
    (process_same (kind_in a r.at (K.Block star events statement)) x (slice_get (design_of a).processes p) (kind_is each a p r (K.Block star events statement) i h) k) refl

-- where one of them holds it isn't uncertain
pub by_edge : (edge asleep quiet wake u : Bool) → (not edge && not asleep && not quiet && not wake) ≡ u → edge ≡ true → false ≡ u
by_edge true asleep quiet wake u h e = h
by_edge false asleep quiet wake u h e = absurd (let z : ⊥ = cc in z)

pub by_wake : (edge asleep quiet wake u : Bool) → (not edge && not asleep && not quiet && not wake) ≡ u → wake ≡ true → false ≡ u
by_wake edge asleep quiet false u h e = absurd (let z : ⊥ = cc in z)
by_wake true asleep quiet true u h e = h
by_wake false true quiet true u h e = h
by_wake false false true true u h e = h
by_wake false false false true u h e = h

pub by_quiet : (edge asleep quiet wake u : Bool) → (not edge && not asleep && not quiet && not wake) ≡ u → edge ≡ false → asleep ≡ false → wake ≡ false → not quiet ≡ u
by_quiet false false true false u h a b c = h
by_quiet false false false false u h a b c = h
by_quiet true asleep quiet wake u h a b c = absurd (let z : ⊥ = cc in z)
by_quiet false true quiet wake u h a b c = absurd (let z : ⊥ = cc in z)
by_quiet false false quiet true u h a b c = absurd (let z : ⊥ = cc in z)

-- waking, by the bits that were gathered
same_any : (a b : Bool) → (a ≡ true → b ≡ true) → (b ≡ true → a ≡ true) → a ≡ b
same_any true b f g = sym (f refl)
same_any false true f g = g refl
same_any false false f g = refl

member_any : (test : ℕ → Bool) (bs : List ℕ) (b : ℕ) → contains bs b ≡ true → test b ≡ true → list_any test bs ≡ true
member_any test [] b h k = cc
member_any test (c ∷ bs) b h k = at (same_or_other b c) h (λ i. member_any test bs b i k) where
  at : (((b == c) ≡ true) × (b ≡ c)) ⊎ (((b == c) ≡ false) × (b ≢ c)) → ((b == c) || contains bs b) ≡ true → (contains bs b ≡ true → list_any test bs ≡ true) → (test c || list_any test bs) ≡ true
  at (inl e) i rest = ap (λ t. t || list_any test bs) (ap test (sym e.1) ∙ k)
  at (inr e) i rest = right (test c) (list_any test bs) (rest (sym (ap (λ t. t || contains bs b) e.0) ∙ i)) where
    right : (a b : Bool) → b ≡ true → (a || b) ≡ true
    right true b h = refl
    right false b h = h

any_member : (test : ℕ → Bool) (bs : List ℕ) → list_any test bs ≡ true → (b : ℕ) × (contains bs b ≡ true) × (test b ≡ true)
any_member test [] h = cc
any_member test (c ∷ bs) h = at (test c) refl h (any_member test bs) where
  at : (t : Bool) → test c ≡ t → (t || list_any test bs) ≡ true → (list_any test bs ≡ true → (b : ℕ) × (contains bs b ≡ true) × (test b ≡ true)) → (b : ℕ) × (contains (c ∷ bs) b ≡ true) × (test b ≡ true)
  at true e k rest = (c, member_at (c ∷ bs) 0 0 (omega arith), e)
  at false e k rest = let r = rest k in (r.0, right (r.0 == c) (contains bs r.0) r.1, r.2) where
    right : (a b : Bool) → b ≡ true → (a || b) ≡ true
    right true b h = refl
    right false b h = h

pub any_same : (test : ℕ → Bool) (xs ys : List ℕ) → ((b : ℕ) → contains xs b ≡ contains ys b) → list_any test xs ≡ list_any test ys
any_same test xs ys h =
    same_any (list_any test xs) (list_any test ys)
    (λ e. let r = any_member test xs e in member_any test ys r.0 (sym (h r.0) ∙ r.1) r.2)
    (λ e. let r = any_member test ys e in member_any test xs r.0 (h r.0 ∙ r.1) r.2)

pub wakes_by : EachHasItsBits → (a : Arena) → IsLawful a → (p : ℕ) (x : D.Process) → slice_get (design_of a).processes p ≡ Some x → (waits : List ℕ) → waits ≡ waits_at (footprints_of (design_of a)) p → (f : Families)
    → list_any (may_wake f.early f.late) waits ≡ wakes f x
wakes_by has a l p x i waits e f =
    ap (λ bs. list_any (may_wake f.early f.late) bs) e ∙ any_same (may_wake f.early f.late) (waits_at (footprints_of (design_of a)) p) (waits_of x) (λ b. (has (design_of a) l.design p x i).waits.same b)
