-- The writers of one bit, one after the other.
use Rattle.std.proofs.Common.{◌≡◌, ℕ, zero, suc, ◌+◌, ◌<◌, Bool, true, false, List, [], ◌∷◌, ◌++◌, ◌==◌, map, if◌then◌else◌, refl, sym, ap, ◌∙◌, subst, get_or, take, length, replicate, Some, append_assoc, append-nil, add-zero, Result, Ok, Err}
use Rattle.std.specs.Prelude.{slice_get, IfOk}
use Rattle.std.specs.List.{flat_map}
use Rattle.std.proofs.lemmas.List.{take_more, replicate-append-replicate, map-append}
use Rattle.std.proofs.lemmas.Option.{slice_get_within, get_or_from_slice_get}
use Rattle.vs_design.specs.Expressions as E
use Rattle.vs_design.specs.Statements as T
use Rattle.vs_design.specs.Designs as D
use Rattle.vs_design.specs.Designs.{OfProcess, OfInitial}
use Rattle.vs_design.specs.Footprints.{contains, target_bits, statement_bits}
use Rattle.vs_design.specs.Refusals.{writes_at}
use Rattle.vs_design.specs.Rules.{times}
use Rattle.vs_flat.specs.declared.processes.AnyProcess.{AnyProcess}
use Rattle.vs_flat.specs.declared.processes.AnyProcess.TheVariants as A
use Rattle.vs_flat.specs.declared.processes.Process as F
use Rattle.vs_flat.specs.declared.processes.Event.{Event}
use Rattle.vs_flat.specs.declared.processes.Port.{Port}
use Rattle.vs_flat.specs.declared.processes.Kind.TheVariants as K
use Rattle.vs_flat.specs.Arena.{Arena}
use Rattle.vs_flat.specs.Lawful.{IsLawful}
use Rattle.vs_flat.specs.Laws.{EachProcess}
use Rattle.vs_flat.specs.Ports.{port_of}
use Rattle.vs_flat.specs.Targets.{place_of}
use Rattle.vs_flat.specs.Trees.{signal_at, tree_at, statement_at, target_tree}
use Rattle.vs_flat.specs.DesignOf.{event_of, arena_signals, arena_trees, arena_statements, design_of}
use Rattle.vs_flat.specs.TextOrder.{any_of}
use Rattle.vs_driver.specs.declared.writers.Writers.{Writers}
use Rattle.vs_driver.specs.Writers.{first_writers, AddsWriters}
use Rattle.vs_reads.specs.Laws.{EachHasItsBits}
use Rattle.vs_reads.specs.Footprint as P
use Rattle.vs_reads.specs.Footprint.{footprints_of}
use Rattle.vs_reads.proofs.ByKind.{kind_in, kind_is, process_same}
use Rattle.vs_driver.proofs.Counting.{times-append}

-- ---- as often as the bit is among these

abbrev pub AddsEach : Writers → Writers → AnyProcess → ℕ → Type 0
AddsEach before after x n = (xs : List AnyProcess) → before ≡ first_writers xs → after ≡ first_writers (xs ++ replicate n x)

one_more_time : (b : ℕ) (bits : List ℕ) (i : ℕ) → i < length bits → times b (take (i + 1) bits) ≡ times b (take i bits) + (if b == get_or bits i 0 then 1 else 0)
one_more_time b bits i l = ap (times b) (take_more bits i 0 l) ∙ times-append b (take i bits) (get_or bits i 0 ∷ [])

pub none_added : (w : Writers) (x : AnyProcess) → AddsEach w w x 0
none_added w x xs e = e ∙ ap first_writers (sym (append-nil xs))

pub added_one : (before w v : Writers) (x : AnyProcess) (b : ℕ) (bits : List ℕ) (i : ℕ) → i < length bits → ((xs : List AnyProcess) → w ≡ first_writers xs → v ≡ first_writers (xs ++ (if b == get_or bits i 0 then (x ∷ []) else [])))
    → AddsEach before w x (times b (take i bits)) → AddsEach before v x (times b (take (i + 1) bits))
added_one before w v x b bits i l more h xs k =
    let n = times b (take i bits) in
    more (xs ++ replicate n x) (h xs k)
    ∙ ap first_writers (append_assoc xs (replicate n x) (if b == get_or bits i 0 then (x ∷ []) else []) ∙ ap (λ ys. xs ++ ys) (joined (b == get_or bits i 0) n)
    ∙ ap (λ m. xs ++ replicate m x) (sym (one_more_time b bits i l)))
  where
    joined : (c : Bool) (n : ℕ) → replicate n x ++ (if c then (x ∷ []) else []) ≡ replicate (n + (if c then 1 else 0)) x
    joined true n = replicate-append-replicate n 1 x
    joined false n = append-nil (replicate n x) ∙ ap (λ m. replicate m x) (sym (add-zero n))

-- ---- if it is among these

pub any_added : (w v : Writers) (x : AnyProcess) (c : Bool) → c ≡ true → ((xs : List AnyProcess) → w ≡ first_writers xs → v ≡ first_writers (xs ++ x ∷ [])) → (xs : List AnyProcess) → w ≡ first_writers xs → v ≡ first_writers (xs ++ (if c then (x ∷ []) else []))
any_added w v x c e more xs k = more xs k ∙ ap (λ (t : Bool). first_writers (xs ++ (if t then (x ∷ []) else []))) (sym e)

pub any_left : (w : Writers) (x : AnyProcess) (c : Bool) → c ≡ false → (xs : List AnyProcess) → w ≡ first_writers xs → w ≡ first_writers (xs ++ (if c then (x ∷ []) else []))
any_left w x c e xs k = k ∙ ap first_writers (sym (append-nil xs)) ∙ ap (λ (t : Bool). first_writers (xs ++ (if t then (x ∷ []) else []))) (sym e)

-- ---- what each of them adds

map_replicate : (n p : ℕ) (process : D.Process) → map any_of (map (λ q. OfProcess q process) (replicate n p)) ≡ replicate n (A.Process p)
map_replicate zero p process = refl
map_replicate (suc n) p process = ap (λ ys. A.Process p ∷ ys) (map_replicate n p process)

pub assign_adds : (before after : Writers) (b p place target_place : ℕ) (port : D.Port) (target : T.Target) (e : E.Expression) (bits : List ℕ) → bits ≡ target_bits target
    → AddsEach before after (A.Process p) (times b bits) → AddsWriters before after (writes_at b (OfProcess p (D.Continuous place port target_place target e)))
assign_adds before after b p place target_place port target e bits same h xs k =
    h xs k ∙ ap (λ ys. first_writers (xs ++ ys)) (ap (λ zs. replicate (times b zs) (A.Process p)) same ∙ sym (map_replicate (times b (target_bits target)) p (D.Continuous place port target_place target e)))

one_of : (c : Bool) (p : ℕ) (process : D.Process) → map any_of (map (λ q. OfProcess q process) (if c then (p ∷ []) else [])) ≡ (if c then (A.Process p ∷ []) else [])
one_of true p process = refl
one_of false p process = refl

pub block_adds : (before after : Writers) (b p place : ℕ) (star : Bool) (events : List D.Event) (s : T.Statement) (bits : List ℕ) → contains bits b ≡ contains (statement_bits s) b
    → ((xs : List AnyProcess) → before ≡ first_writers xs → after ≡ first_writers (xs ++ (if contains bits b then (A.Process p ∷ []) else []))) → AddsWriters before after (writes_at b (OfProcess p (D.Always place star events s)))
block_adds before after b p place star events s bits same h xs k =
    h xs k ∙ ap (λ ys. first_writers (xs ++ ys)) (ap (λ (t : Bool). if t then (A.Process p ∷ []) else []) same ∙ sym (one_of (contains (statement_bits s) b) p (D.Always place star events s)))

initial_of : (c : Bool) (k : ℕ) (i : D.Initial) → map any_of (if c then (OfInitial k i ∷ []) else []) ≡ (if c then (A.Initial k ∷ []) else [])
initial_of true k i = refl
initial_of false k i = refl

pub initial_adds : (before after : Writers) (b n : ℕ) (i : D.Initial) (bits : List ℕ) → bits ≡ statement_bits i.statement
    → ((xs : List AnyProcess) → before ≡ first_writers xs → after ≡ first_writers (xs ++ (if contains bits b then (A.Initial n ∷ []) else []))) → AddsWriters before after (writes_at b (OfInitial n i))
initial_adds before after b n i bits same h xs k =
    h xs k ∙ ap (λ ys. first_writers (xs ++ ys)) (ap (λ zs. if contains zs b then (A.Initial n ∷ []) else []) same ∙ sym (initial_of (contains (statement_bits i.statement) b) n i))

-- the process of this number, by its kind
pub assign_added : EachProcess → (a : Arena) (p : ℕ) (r : F.Process) (target e : ℕ) (port : Port) → slice_get a.processes p ≡ Some r → r.kind ≡ K.Assign target e port → (before after : Writers) (b : ℕ) (bits : List ℕ) → bits ≡ target_bits (target_tree (tree_at (arena_trees a) target))
    → AddsEach before after (A.Process p) (times b bits) → (x : D.Process) → slice_get (design_of a).processes p ≡ Some x → AddsWriters before after (writes_at b (OfProcess p x))
assign_added each a p r target e port at is before after b bits same h x found =
    let k = K.Assign target e port in
    subst (λ (y : D.Process). AddsWriters before after (writes_at b (OfProcess p y))) (process_same (kind_in a r.at k) x (slice_get (design_of a).processes p) (kind_is each a p r k at is) found)
    (assign_adds before after b p r.at (place_of (tree_at (arena_trees a) target)) (port_of port) (target_tree (tree_at (arena_trees a) target)) (tree_at (arena_trees a) e) bits same h)

pub block_added : EachProcess → EachHasItsBits → (a : Arena) → IsLawful a → (p : ℕ) (r : F.Process) (star : Bool) (events : List Event) (statement : ℕ) → slice_get a.processes p ≡ Some r → r.kind ≡ K.Block star events statement → (before after : Writers) (b : ℕ) (bits : List ℕ)
    → bits ≡ P.writes_at (footprints_of (design_of a)) p → ((xs : List AnyProcess) → before ≡ first_writers xs → after ≡ first_writers (xs ++ (if contains bits b then (A.Process p ∷ []) else [])))
    → (x : D.Process) → slice_get (design_of a).processes p ≡ Some x → AddsWriters before after (writes_at b (OfProcess p x))
block_added each law a lawful p r star events statement at is before after b bits same h x found =
    let k = K.Block star events statement in
    let here = kind_is each a p r k at is in
    subst (λ (y : D.Process). AddsWriters before after (writes_at b (OfProcess p y))) (process_same (kind_in a r.at k) x (slice_get (design_of a).processes p) here found)
    (block_adds before after b p r.at star (map (event_of (signal_at (arena_signals a))) events) (statement_at (arena_statements a) statement) bits
    (ap (λ zs. contains zs b) same ∙ (law (design_of a) lawful.design p (kind_in a r.at k) here).writes.same b) h)

-- ---- along the text

pub if_ok : {V W : Type 0} {P Q : V → Type 0} (r : Result V W) → IfOk r P → ((v : V) → P v → Q v) → IfOk r Q
if_ok (Ok v) h k = k v h
if_ok (Err e) h k = h

pub next_added : (d : D.Design) (n : ℕ) (y x : D.AnyProcess) (before after : Writers) (b : ℕ) → slice_get (D.in_text_order d) n ≡ Some y → slice_get (D.in_text_order d) n ≡ Some x → AddsWriters before after (writes_at b y) → AddsWriters before after (writes_at b x)
next_added d n y x before after b h k adds = subst (λ (z : D.AnyProcess). AddsWriters before after (writes_at b z)) (same y x (sym h ∙ k)) adds
  where
    same : (y x : D.AnyProcess) → Some y ≡ Some x → y ≡ x
    same y x e = cc

flat_append : (f : D.AnyProcess → List D.AnyProcess) (xs ys : List D.AnyProcess) → flat_map f (xs ++ ys) ≡ flat_map f xs ++ flat_map f ys
flat_append f [] ys = refl
flat_append f (x ∷ xs) ys = ap (λ zs. f x ++ zs) (flat_append f xs ys) ∙ sym (append_assoc (f x) (flat_map f xs) (flat_map f ys))

-- those up to a place in the text
abbrev pub WritersTo : D.Design → ℕ → ℕ → Writers → Type 0
WritersTo d b n w = w ≡ first_writers (map any_of (flat_map (writes_at b) (take n (D.in_text_order d))))

pub writers_next : (d : D.Design) (b n : ℕ) (x : D.AnyProcess) (w v : Writers) → slice_get (D.in_text_order d) n ≡ Some x → AddsWriters w v (writes_at b x) → WritersTo d b n w → WritersTo d b (n + 1) v
writers_next d b n x w v at adds h =
    let xs = D.in_text_order d in
    adds (map any_of (flat_map (writes_at b) (take n xs))) h
    ∙ ap first_writers
    (sym (ap (λ ys. map any_of (flat_map (writes_at b) ys)) (take_more xs n x (slice_get_within xs n x at) ∙ ap (λ y. take n xs ++ y ∷ []) (get_or_from_slice_get xs n x x at))
    ∙ ap (map any_of) (flat_append (writes_at b) (take n xs) (x ∷ []) ∙ ap (λ zs. flat_map (writes_at b) (take n xs) ++ zs) (nil (writes_at b x)))
    ∙ map-append any_of (flat_map (writes_at b) (take n xs)) (writes_at b x)))
  where
    nil : (xs : List D.AnyProcess) → xs ++ [] ≡ xs
    nil [] = refl
    nil (x ∷ xs) = ap (λ zs. x ∷ zs) (nil xs)
