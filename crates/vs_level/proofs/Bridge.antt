-- From the graph of a design to its level order, and to a cycle in it.
use Rattle.std.proofs.Common.{◌≡◌, ℕ, zero, suc, ◌+◌, ◌<◌, Bool, true, false, List, [], ◌∷◌, ◌++◌, ◌||◌, ◌&&◌, not, refl, sym, ap, ◌∙◌, subst, length, reverse, arith, get_or, nat_lt, Some}
use Rattle.std.specs.Prelude.{slice_get}
use Rattle.std.specs.List.{list_any}
use Rattle.std.proofs.lemmas.Bool.{lt-ltb, ltb-true}
use Rattle.std.proofs.lemmas.List.{reverse-reverse, append_assoc, append-nil}
use Rattle.std.proofs.lemmas.Grind.{reverse_onto}
use Rattle.std.proofs.lemmas.Option.{slice_get_within}
use Rattle.vs_design.specs.Expressions as E
use Rattle.vs_design.specs.Statements as T
use Rattle.vs_design.specs.Answers.{first_of}
use Rattle.vs_design.specs.Laws.{OrderOrCycle}
use Rattle.vs_design.specs.Refusals.{place_at}
use Rattle.vs_design.specs.Designs.{Process, is_clocked, process_place, Design}
use Rattle.vs_design.specs.Footprints.{contains, writes_of}
use Rattle.vs_design.specs.Levels.{needs, feeds, at_number, is_ready, has_all, is_order_after, is_level_order, level_order, has_no_cycle}
use Rattle.vs_design.specs.Cycles.{Feeds, IsChain, IsCycle}
use Rattle.vs_level.specs.Graph.{Feeding, feeders_at, is_node, is_fed_by, IsClosed, IsPlaced, IsSorted, IsLinked, IsCircle}
use Rattle.vs_flat.specs.declared.processes.Process.{Process as Flat}
use Rattle.vs_flat.specs.declared.processes.Kind.{Kind}
use Rattle.vs_flat.specs.declared.processes.Kind.TheVariants as K
use Rattle.vs_flat.specs.Arena.{Arena}
use Rattle.vs_flat.specs.Laws.{EachProcess}
use Rattle.vs_flat.specs.Trees.{signal_at, tree_at, statement_at}
use Rattle.vs_flat.specs.DesignOf.{kind_of, process_of, arena_signals, arena_trees, arena_statements, design_of}
use Rattle.vs_level.specs.declared.search.SortError.{SortError}
use Rattle.vs_level.specs.declared.search.SortError.TheVariants.{Circle, Memory}
use Rattle.vs_level.specs.SortError.{IsSortError, IsSortErrorOf}
use Rattle.vs_level.specs.Feeders.{settles, is_writer, is_feeder, IsGraphOf}
use Rattle.vs_reads.proofs.Tests.{by_test, either_way, or_left, or_right, and_both, and_true, not_true, not_false, any_member, member_any}
use Rattle.vs_reads.proofs.Numbered.{number_at, at_is, number_below, process_there, place_is}

-- ---- what feeds what

-- the processes of an edge of the graph
pub fed : (d : Design) (p q : ℕ) → is_feeder d p q ≡ true → Feeds d q p
fed d p q h = record {
  from = x.0;
  to = y.0;
  from_is = x.1;
  to_is = y.1;
  from_settles = not_true (is_clocked x.0) xs.0;
  to_settles = not_true (is_clocked y.0) ys.0;
  fed = member_any (contains (needs y.0)) (writes_of x.0) b.0 xs.1 b.1;
}
  where
    y : (y : Process) × (slice_get d.processes p ≡ Some y) × ((not (is_clocked y) && list_any (λ b. is_writer d b q) (needs y)) ≡ true)
    y = at_is p d.processes (λ y. not (is_clocked y) && list_any (λ b. is_writer d b q) (needs y)) h

    ys : (not (is_clocked y.0) ≡ true) × (list_any (λ b. is_writer d b q) (needs y.0) ≡ true)
    ys = and_both (not (is_clocked y.0)) (list_any (λ b. is_writer d b q) (needs y.0)) y.2

    b : (b : ℕ) × (contains (needs y.0) b ≡ true) × (is_writer d b q ≡ true)
    b = any_member (λ b. is_writer d b q) (needs y.0) ys.1

    x : (x : Process) × (slice_get d.processes q ≡ Some x) × ((not (is_clocked x) && contains (writes_of x) b.0) ≡ true)
    x = at_is q d.processes (λ x. not (is_clocked x) && contains (writes_of x) b.0) b.2

    xs : (not (is_clocked x.0) ≡ true) × (contains (writes_of x.0) b.0 ≡ true)
    xs = and_both (not (is_clocked x.0)) (contains (writes_of x.0) b.0) x.2

pub feeder_of : (d : Design) (p q : ℕ) (x y : Process) → slice_get d.processes q ≡ Some x → slice_get d.processes p ≡ Some y → is_clocked x ≡ false → is_clocked y ≡ false → feeds x y ≡ true → is_feeder d p q ≡ true
feeder_of d p q x y xe ye xs ys h =
    let b = any_member (contains (needs y)) (writes_of x) h in
    number_at p d.processes y (λ y. not (is_clocked y) && list_any (λ b. is_writer d b q) (needs y)) ye
    ∙ and_true (not (is_clocked y)) (list_any (λ b. is_writer d b q) (needs y)) (not_false (is_clocked y) ys)
    (member_any (λ b. is_writer d b q) (needs y) b.0 b.2 (number_at q d.processes x (λ x. not (is_clocked x) && contains (writes_of x) b.0) xe ∙ and_true (not (is_clocked x)) (contains (writes_of x) b.0) (not_false (is_clocked x) xs) b.1))

-- ---- the graph is closed

node_is : (d : Design) (g : Feeding) (p : ℕ) → IsGraphOf d g → settles d p ≡ true → is_node g p ≡ true
node_is d g p i h = i.nodes p ∙ and_true (nat_lt p (length d.processes)) (settles d p) (lt-ltb p (length d.processes) (number_below d.processes p (λ x. not (is_clocked x)) h)) h

edge_is : (d : Design) (g : Feeding) (p q : ℕ) → IsGraphOf d g → is_fed_by g p q ≡ true → is_feeder d p q ≡ true
edge_is d g p q i h = by_test (nat_lt p (length d.processes)) (λ e. sym (i.feeders p q (ltb-true p (length d.processes) e)) ∙ h) (λ e. nothing e)
  where
    past : (xs : List (List ℕ)) (p : ℕ) → nat_lt p (length xs) ≡ false → get_or xs p [] ≡ []
    past [] p h = refl
    past (x ∷ xs) zero h = either_way (nat_lt 0 (length (x ∷ xs))) (lt-ltb 0 (length (x ∷ xs)) (omega arith)) h
    past (x ∷ xs) (suc p) h = past xs p (by_test (nat_lt p (length xs)) (λ e. either_way (nat_lt (suc p) (length (x ∷ xs))) (lt-ltb (suc p) (length (x ∷ xs)) (let l = ltb-true p (length xs) e in omega (arith, l))) h) (λ e. e))

    none : (xs : List ℕ) → xs ≡ [] → contains xs q ≡ true → is_feeder d p q ≡ true
    none [] e h = cc
    none (x ∷ xs) e h = cc

    nothing : nat_lt p (length d.processes) ≡ false → is_feeder d p q ≡ true
    nothing e = none (feeders_at g p) (past g.feeders p (subst (λ m. nat_lt p m ≡ false) (sym i.count) e)) h

pub graph_closed : (d : Design) (g : Feeding) → IsGraphOf d g → IsClosed g
graph_closed d g i = record {
  feeders = λ p q h. let f = fed d p q (edge_is d g p q i h) in node_is d g q i (number_at q d.processes f.from (λ x. not (is_clocked x)) f.from_is ∙ not_false (is_clocked f.from) f.from_settles);
  there = λ p h. subst (λ m. p < m) (sym i.count) (ltb-true p (length d.processes) (and_both (nat_lt p (length d.processes)) (settles d p) (sym (i.nodes p) ∙ h)).0);
}

-- ---- the order

-- the list is the end of the design's from number k on
abbrev IsEnd : Design → ℕ → List Process → Type 0
IsEnd d k ps = (n : ℕ) (x : Process) → slice_get ps n ≡ Some x → slice_get d.processes (k + n) ≡ Some x

whole_end : (d : Design) → IsEnd d 0 d.processes
whole_end d n x e = subst (λ m. slice_get d.processes m ≡ Some x) (omega arith) e

end_rest : (d : Design) (k : ℕ) (x : Process) (ps : List Process) → IsEnd d k (x ∷ ps) → IsEnd d (suc k) ps
end_rest d k x ps t n y e = subst (λ m. slice_get d.processes m ≡ Some y) (omega arith) (t (suc n) y e)

end_first : (d : Design) (k : ℕ) (x : Process) (ps : List Process) → IsEnd d k (x ∷ ps) → slice_get d.processes k ≡ Some x
end_first d k x ps t = subst (λ m. slice_get d.processes m ≡ Some x) (omega arith) (t 0 x refl)

either : (a b c : Bool) → (a ≡ false → b ≡ true → c ≡ true) → (a || not b || c) ≡ true
either true b c f = refl
either false true c f = f refl refl
either false false c f = refl

-- a process all of whose feeders are placed
ready : (d : Design) (placed : List ℕ) (p : ℕ) (y : Process) → slice_get d.processes p ≡ Some y → is_clocked y ≡ false → ((q : ℕ) → is_feeder d p q ≡ true → contains placed q ≡ true) → (k : ℕ) (ps : List Process) → IsEnd d k ps → is_ready placed k ps y ≡ true
ready d placed p y e s h k [] t = refl
ready d placed p y e s h k (x ∷ ps) t =
    and_true (is_clocked x || not (feeds x y) || contains placed k) (is_ready placed (suc k) ps y)
    (either (is_clocked x) (feeds x y) (contains placed k) (λ c f. h k (feeder_of d p k x y (end_first d k x ps t) e c s f)))
    (ready d placed p y e s h (suc k) ps (end_rest d k x ps t))

all : (d : Design) (placed : List ℕ) → ((p : ℕ) → settles d p ≡ true → contains placed p ≡ true) → (k : ℕ) (ps : List Process) → IsEnd d k ps → has_all placed k ps ≡ true
all d placed h k [] t = refl
all d placed h k (x ∷ ps) t =
    and_true (is_clocked x || contains placed k) (has_all placed (suc k) ps)
    (by_test (is_clocked x)
    (λ e. or_left (is_clocked x) (contains placed k) e)
    (λ e. or_right (is_clocked x) (contains placed k) (h k (number_at k d.processes x (λ x. not (is_clocked x)) (end_first d k x ps t) ∙ not_false (is_clocked x) e))))
    (all d placed h (suc k) ps (end_rest d k x ps t))

order_from : (d : Design) (g : Feeding) → IsGraphOf d g → (placed later : List ℕ) → IsPlaced g placed → is_order_after placed d later ≡ true → is_order_after [] d (reverse placed ++ later) ≡ true
order_from d g i [] later h k = k
order_from d g i (p ∷ placed) later h k = subst (λ zs. is_order_after [] d zs ≡ true) (sym turned) (order_from d g i placed (p ∷ later) h.3 (and_true _ _ (and_true _ _ (not_false (contains placed p) h.0) here) k))
  where
    turned : reverse (p ∷ placed) ++ later ≡ reverse placed ++ p ∷ later
    turned = ap {B = List ℕ} (λ zs. zs ++ later) (reverse_onto placed p []) ∙ append_assoc (reverse placed) (p ∷ []) later

    node : (nat_lt p (length d.processes) ≡ true) × (settles d p ≡ true)
    node = and_both (nat_lt p (length d.processes)) (settles d p) (sym (i.nodes p) ∙ h.1)

    below : p < length d.processes
    below = ltb-true p (length d.processes) node.0

    y : (y : Process) × (slice_get d.processes p ≡ Some y)
    y = process_there d.processes p below

    settled : not (is_clocked y.0) ≡ true
    settled = sym (number_at p d.processes y.0 (λ x. not (is_clocked x)) y.1) ∙ node.1

    here : at_number p d.processes (λ process. not (is_clocked process) && is_ready placed 0 d.processes process) ≡ true
    here = number_at p d.processes y.0 (λ process. not (is_clocked process) && is_ready placed 0 d.processes process) y.1
        ∙ and_true (not (is_clocked y.0)) (is_ready placed 0 d.processes y.0) settled
        (ready d placed p y.0 y.1 (not_true (is_clocked y.0) settled) (λ q f. h.2 q (i.feeders p q below ∙ f)) 0 d.processes (whole_end d))

pub order_is : (d : Design) (g : Feeding) (order : List ℕ) → IsGraphOf d g → IsSorted g order → is_level_order d order ≡ true
order_is d g order i s =
    subst (λ o. is_order_after [] d o ≡ true) (append-nil (reverse (reverse order)) ∙ reverse-reverse order)
    (order_from d g i (reverse order) [] s.placed (all d (reverse order) (λ p h. s.all p (node_is d g p i h)) 0 d.processes (whole_end d)))

-- ---- the cycle

chain_is : (d : Design) (g : Feeding) → IsGraphOf d g → (ps : List ℕ) (last : ℕ) → IsLinked g ps last → IsChain d ps last
chain_is d g i [] last h = tt
chain_is d g i (p ∷ []) last h = fed d last p (edge_is d g last p i h)
chain_is d g i (p ∷ q ∷ ps) last h = (fed d q p (edge_is d g q p i h.0), chain_is d g i (q ∷ ps) last h.1)

pub cycle_is : (d : Design) (g : Feeding) (ps : List ℕ) → IsGraphOf d g → IsCircle g ps → IsCycle d ps
cycle_is d g [] i h = h
cycle_is d g (p ∷ ps) i h = (chain_is d g i (p ∷ ps) p h.0, h.1, h.2)

-- ---- the answer

pub sort_error : (d : Design) (g : Feeding) (e : SortError) → IsGraphOf d g → IsSortError g e → IsSortErrorOf d e
sort_error d g (Circle ps) i h = cycle_is d g ps.items i h
sort_error d g Memory i h = tt

-- where there is an order, one is computed
pub no_cycle : OrderOrCycle → (d : Design) (order : List ℕ) → is_level_order d order ≡ true → has_no_cycle d ≡ true
no_cycle law d order h = by_test (has_no_cycle d) (λ e. e) (λ e. let c = (law d).found e in absurd ((law d).none order h c.0 c.1))

pub has_cycle : OrderOrCycle → (d : Design) (ps : List ℕ) → IsCycle d ps → has_no_cycle d ≡ false
has_cycle law d ps c = by_test (has_no_cycle d) (λ e. absurd ((law d).none (level_order d) e ps c)) (λ e. e)

-- the first process of a cycle
pub first_there : (d : Design) (ps : List ℕ) → IsCycle d ps → (0 < length ps) × (get_or ps 0 0 < length d.processes)
first_there d [] c = absurd c
first_there d (p ∷ []) c = (omega arith, slice_get_within d.processes p c.0.from c.0.from_is)
first_there d (p ∷ q ∷ ps) c = (omega arith, slice_get_within d.processes p c.0.0.from c.0.0.from_is)

first_is : (d : Design) (ps : List ℕ) (q : ℕ) → IsCycle d ps → q ≡ get_or ps 0 q → q ≡ first_of ps
first_is d [] q c e = absurd c
first_is d (p ∷ ps) q c e = e

place_same : (signal : ℕ → E.Signal) (tree : ℕ → E.Expression) (statement : ℕ → T.Statement) (place : ℕ) (k : Kind) → process_place (kind_of signal tree statement place k) ≡ place
place_same signal tree statement place (K.Assign target e port) = refl
place_same signal tree statement place (K.Block star events body) = refl

-- and where it begins
pub first_place : EachProcess → (a : Arena) (ps : List ℕ) (q : ℕ) (r : Flat) → IsCycle (design_of a) ps → q ≡ get_or ps 0 q → slice_get a.processes q ≡ Some r → r.at ≡ place_at (design_of a).processes (first_of ps)
first_place each a ps q r c f e =
    sym (place_same (signal_at (arena_signals a)) (tree_at (arena_trees a)) (statement_at (arena_statements a)) r.at r.kind)
    ∙ sym (place_is (design_of a).processes q (process_of (signal_at (arena_signals a)) (tree_at (arena_trees a)) (statement_at (arena_statements a)) r) (each a q r e))
    ∙ ap (place_at (design_of a).processes) (first_is (design_of a) ps q c f)
