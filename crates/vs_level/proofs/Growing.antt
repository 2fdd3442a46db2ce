-- How the writers and the graph of a design grow process by process.
use Rattle.std.proofs.Common.{◌≡◌, ℕ, zero, suc, ◌+◌, ◌<◌, Bool, true, false, List, [], ◌∷◌, ◌++◌, ◌||◌, ◌&&◌, ◌==◌, not, refl, sym, ap, ◌∙◌, subst, eqb-true, eq-eqb, get_or, set, take, length, arith, nat_lt, Some, ◌≢◌, get_or-set_same, get_or-set_other, length-append}
use Rattle.std.specs.Prelude.{slice_get}
use Rattle.std.specs.List.{list_any}
use Rattle.std.proofs.lemmas.Bool.{lt-ltb, ltb-true}
use Rattle.std.proofs.lemmas.List.Folds.{list_any-append}
use Rattle.std.proofs.Math.Seq.{get_or-append_seam}
use Rattle.std.proofs.lemmas.List.{get_or_append_left}
use Rattle.vs_design.specs.Designs.{Process, is_clocked, Design}
use Rattle.vs_design.specs.Footprints.{contains, writes_of, reads_of, waits_of}
use Rattle.vs_design.specs.Levels.{needs, at_number}
use Rattle.vs_level.specs.Graph.{Feeding, is_node, is_fed_by}
use Rattle.vs_level.specs.Feeders.{settles, is_writer, is_feeder, writers_at, AreWriters, IsGraphUpTo, with_node, with_other}
use Rattle.vs_reads.proofs.Tests.{by_test, either_way, contains-append, contains_more, any_same, any_test, below_same, below_other}
use Rattle.vs_reads.proofs.Numbered.{number_at}

same_other : (q p : ℕ) → (q == p) ≡ false → q ≡ p → ⊥
same_other q p h e = either_way (q == p) (subst (λ m. (q == m) ≡ true) e (eq-eqb q q refl)) h

or_nothing : (a : Bool) → (a || false) ≡ a
or_nothing true = refl
or_nothing false = refl

and_nothing : (a : Bool) → (a && false) ≡ false
and_nothing true = refl
and_nothing false = refl

-- ---- one writer more of one bit more

-- p is noted at these bits
abbrev pub AreNoted : List (List ℕ) → List (List ℕ) → List ℕ → ℕ → Type 0
AreNoted old new bits p = (b q : ℕ) → b < length old → contains (writers_at new b) q ≡ (contains (writers_at old b) q || (contains bits b && (q == p)))

pub none_noted : (old : List (List ℕ)) (p : ℕ) → AreNoted old old [] p
none_noted old p b q l = sym (or_nothing (contains (writers_at old b) q))

pub one_noted : (old table new : List (List ℕ)) (bits : List ℕ) (i p : ℕ) → length table ≡ length old → i < length bits → get_or bits i 0 < length table
    → new ≡ set table (get_or bits i 0) (writers_at table (get_or bits i 0) ++ p ∷ []) → AreNoted old table (take i bits) p → AreNoted old new (take (i + 1) bits) p
one_noted old table new bits i p c l m e h b q k =
    ap {B = Bool} (λ t. contains (writers_at t b) q) e
    ∙ by_test (b == bit)
    (λ s. ap {B = Bool} (λ n. contains (writers_at changed n) q) (eqb-true b bit s) ∙ same ∙ ap {B = Bool} (λ n. contains (writers_at table n) q || (q == p)) (sym (eqb-true b bit s)) ∙ ap {B = Bool} (λ t. t || (q == p)) (h b q k) ∙ joined (contains (writers_at old b) q) (contains (take i bits) b) (q == p) ∙ sym (ap {B = Bool} (λ t. contains (writers_at old b) q || ((contains (take i bits) b || t) && (q == p))) s) ∙ sym (ap {B = Bool} (λ t. contains (writers_at old b) q || (t && (q == p))) (contains_more bits i b l)))
    (λ s. ap {B = Bool} (λ zs. contains zs q) (other s) ∙ h b q k ∙ sym (ap {B = Bool} (λ t. contains (writers_at old b) q || (t && (q == p))) (contains_more bits i b l ∙ ap {B = Bool} (λ t. contains (take i bits) b || t) s ∙ or_nothing (contains (take i bits) b))))
  where
    bit : ℕ
    bit = get_or bits i 0

    changed : List (List ℕ)
    changed = set table bit (writers_at table bit ++ p ∷ [])

    same : contains (writers_at changed bit) q ≡ (contains (writers_at table bit) q || (q == p))
    same = ap {B = Bool} (λ zs. contains zs q) written ∙ contains-append (writers_at table bit) (p ∷ []) q ∙ ap {B = Bool} (λ t. contains (writers_at table bit) q || t) (or_nothing (q == p))
      where
        written : writers_at changed bit ≡ writers_at table bit ++ p ∷ []
        written = rw get_or-set_same refl

    other : (b == bit) ≡ false → writers_at changed b ≡ writers_at table b
    other s = let ne : b ≢ bit = same_other b bit s in rw get_or-set_other refl

    joined : (a t k : Bool) → ((a || (t && k)) || k) ≡ (a || ((t || true) && k))
    joined true t k = refl
    joined false true true = refl
    joined false true false = refl
    joined false false k = refl

-- ---- the writers of one process more

pub no_writers : (d : Design) (table : List (List ℕ)) → ((b : ℕ) → writers_at table b ≡ []) → AreWriters d 0 table
no_writers d table h b q l = ap {B = Bool} (λ zs. contains zs q) (h b) ∙ sym (nothing q)
  where
    nothing : (q : ℕ) → (nat_lt q 0 && is_writer d b q) ≡ false
    nothing q = by_test (nat_lt q 0) (λ e. absurd (let l = ltb-true q 0 e in omega (arith, l))) (λ e. ap {B = Bool} (λ t. t && is_writer d b q) e)

-- an assign or a combinational block
pub writers_more : (d : Design) (p : ℕ) (x : Process) (old new : List (List ℕ)) (bits : List ℕ) → length new ≡ length old → slice_get d.processes p ≡ Some x → settles d p ≡ true → ((b : ℕ) → contains bits b ≡ contains (writes_of x) b)
    → AreNoted old new bits p → AreWriters d p old → AreWriters d (p + 1) new
writers_more d p x old new bits c e s w n h b q l =
    n b q k ∙ ap {B = Bool} (λ t. t || (contains bits b && (q == p))) (h b q k)
    ∙ by_test (q == p)
    (λ f. subst (λ m. ((nat_lt m p && is_writer d b m) || (contains bits b && (m == p))) ≡ (nat_lt m (p + 1) && is_writer d b m)) (sym (eqb-true q p f)) here)
    (λ f. ap {B = Bool} (λ t. (nat_lt q p && is_writer d b q) || (contains bits b && t)) f ∙ ap {B = Bool} (λ t. (nat_lt q p && is_writer d b q) || t) (and_nothing (contains bits b)) ∙ or_nothing (nat_lt q p && is_writer d b q) ∙ sym (ap {B = Bool} (λ t. t && is_writer d b q) (below_other q p f)))
  where
    k : b < length old
    k = subst (λ m. b < m) c l

    writes : is_writer d b p ≡ contains bits b
    writes = number_at p d.processes x (λ x. not (is_clocked x) && contains (writes_of x) b) e ∙ ap {B = Bool} (λ t. t && contains (writes_of x) b) (sym (number_at p d.processes x (λ x. not (is_clocked x)) e) ∙ s) ∙ sym (w b)

    here : ((nat_lt p p && is_writer d b p) || (contains bits b && (p == p))) ≡ (nat_lt p (p + 1) && is_writer d b p)
    here = go (nat_lt p p) (nat_lt p (p + 1)) (p == p) (is_writer d b p) (contains bits b) (below_same p) (eq-eqb p p refl) writes
      where
        go : (a m s w c : Bool) → m ≡ true → s ≡ true → w ≡ c → ((a && w) || (c && s)) ≡ (m && w)
        go true true true true c h k e = refl
        go true true true false true h k e = cc
        go true true true false false h k e = refl
        go false true true w true h k e = sym e
        go false true true w false h k e = sym e
        go a false s w c h k e = cc
        go a true false w c h k e = cc

-- a clocked block writes nothing here
pub writers_same : (d : Design) (p : ℕ) (table : List (List ℕ)) → settles d p ≡ false → AreWriters d p table → AreWriters d (p + 1) table
writers_same d p table s h b q l =
    h b q l
    ∙ by_test (q == p)
    (λ f. subst (λ m. (nat_lt m p && is_writer d b m) ≡ (nat_lt m (p + 1) && is_writer d b m)) (sym (eqb-true q p f)) (ap {B = Bool} (λ t. nat_lt p p && t) none ∙ and_nothing (nat_lt p p) ∙ sym (ap {B = Bool} (λ t. nat_lt p (p + 1) && t) none ∙ and_nothing (nat_lt p (p + 1)))))
    (λ f. sym (ap {B = Bool} (λ t. t && is_writer d b q) (below_other q p f)))
  where
    none : is_writer d b p ≡ false
    none = weaker p d.processes s
      where
        and_first : (a c : Bool) → a ≡ false → (a && c) ≡ false
        and_first a c h = ap {B = Bool} (λ t. t && c) h

        weaker : (p : ℕ) (ps : List Process) → at_number p ps (λ x. not (is_clocked x)) ≡ false → at_number p ps (λ x. not (is_clocked x) && contains (writes_of x) b) ≡ false
        weaker p [] h = refl
        weaker zero (x ∷ ps) h = and_first (not (is_clocked x)) (contains (writes_of x) b) h
        weaker (suc p) (x ∷ ps) h = weaker p ps h

-- ---- what feeds a process

-- the writers of what it reads, and of what it waits on
pub feeders_are : (d : Design) (p : ℕ) (x : Process) (writers : List (List ℕ)) (reads waits fs : List ℕ) → slice_get d.processes p ≡ Some x → settles d p ≡ true
    → AreWriters d (length d.processes) writers → ((b : ℕ) → contains reads b ≡ contains (reads_of x) b) → ((b : ℕ) → contains waits b ≡ contains (waits_of x) b)
    → ((b : ℕ) → contains reads b ≡ true → b < length writers) → ((b : ℕ) → contains waits b ≡ true → b < length writers)
    → (q : ℕ) → contains fs q ≡ (list_any (λ b. contains (writers_at writers b) q) reads || list_any (λ b. contains (writers_at writers b) q) waits) → contains fs q ≡ is_feeder d p q
feeders_are d p x writers reads waits fs e s w r v rb vb q h =
    h
    ∙ ap {B = Bool} (λ t. t || list_any (λ b. contains (writers_at writers b) q) waits) (any_test (λ b. contains (writers_at writers b) q) (λ b. is_writer d b q) reads (λ b c. writer b (rb b c)) ∙ any_same (λ b. is_writer d b q) reads (reads_of x) r)
    ∙ ap {B = Bool} (λ t. list_any (λ b. is_writer d b q) (reads_of x) || t) (any_test (λ b. contains (writers_at writers b) q) (λ b. is_writer d b q) waits (λ b c. writer b (vb b c)) ∙ any_same (λ b. is_writer d b q) waits (waits_of x) v)
    ∙ sym (list_any-append (λ b. is_writer d b q) (reads_of x) (waits_of x))
    ∙ sym (number_at p d.processes x (λ y. not (is_clocked y) && list_any (λ b. is_writer d b q) (needs y)) e ∙ ap {B = Bool} (λ t. t && list_any (λ b. is_writer d b q) (needs x)) (sym (number_at p d.processes x (λ x. not (is_clocked x)) e) ∙ s))
  where
    above : (b q : ℕ) → nat_lt q (length d.processes) ≡ false → is_writer d b q ≡ false
    above b q h = go q d.processes h
      where
        go : (q : ℕ) (ps : List Process) → nat_lt q (length ps) ≡ false → at_number q ps (λ x. not (is_clocked x) && contains (writes_of x) b) ≡ false
        go q [] h = refl
        go zero (x ∷ ps) h = either_way (nat_lt 0 (length (x ∷ ps))) (lt-ltb 0 (length (x ∷ ps)) (omega arith)) h
        go (suc q) (x ∷ ps) h = go q ps (by_test (nat_lt q (length ps)) (λ e. either_way (nat_lt (suc q) (length (x ∷ ps))) (lt-ltb (suc q) (length (x ∷ ps)) (let l = ltb-true q (length ps) e in omega (arith, l))) h) (λ e. e))

    writer : (b : ℕ) → b < length writers → contains (writers_at writers b) q ≡ is_writer d b q
    writer b l = w b q l ∙ by_test (nat_lt q (length d.processes)) (λ f. ap {B = Bool} (λ t. t && is_writer d b q) f) (λ f. ap {B = Bool} (λ t. t && is_writer d b q) f ∙ sym (above b q f))

-- ---- the graph with one process more

pub graph_none : (d : Design) → IsGraphUpTo d 0 (record { nodes = []; feeders = [] })
graph_none d = record {
  count = refl;
  nodes = λ q. by_test (nat_lt q 0) (λ e. absurd (let l = ltb-true q 0 e in omega (arith, l))) (λ e. sym (ap {B = Bool} (λ t. t && settles d q) e));
  feeders = λ r q l. absurd (omega (arith, l));
}

grown : (d : Design) (g : Feeding) (p r q : ℕ) (fs : List ℕ) → length g.feeders ≡ p → ((r q : ℕ) → r < p → is_fed_by g r q ≡ is_feeder d r q) → contains fs q ≡ is_feeder d p q → r < p + 1 → contains (get_or (g.feeders ++ fs ∷ []) r []) q ≡ is_feeder d r q
grown d g p r q fs c h f l =
    by_test (r == p)
    (λ e. subst (λ m. contains (get_or (g.feeders ++ fs ∷ []) m []) q ≡ is_feeder d m q) (sym (eqb-true r p e)) (ap {B = Bool} (λ zs. contains zs q) at_end ∙ f))
    (λ e. ap {B = Bool} (λ zs. contains zs q) (get_or_append_left g.feeders (fs ∷ []) [] r (subst (λ m. r < m) (sym c) (less e))) ∙ h r q (less e))
  where
    less : (r == p) ≡ false → r < p
    less e = let ne : r ≢ p = same_other r p e in omega (arith, l)

    at_end : get_or (g.feeders ++ fs ∷ []) p [] ≡ fs
    at_end = subst (λ m. get_or (g.feeders ++ fs ∷ []) m [] ≡ fs) c (get_or-append_seam g.feeders fs [] [])

pub graph_node : (d : Design) (p : ℕ) (g : Feeding) (fs : List ℕ) → IsGraphUpTo d p g → settles d p ≡ true → ((q : ℕ) → contains fs q ≡ is_feeder d p q) → IsGraphUpTo d (p + 1) (with_node g p fs)
graph_node d p g fs h s f = record {
  count = length-append g.feeders (fs ∷ []) ∙ ap {B = ℕ} (λ n. n + 1) h.count;
  nodes = nodes;
  feeders = λ r q l. grown d g p r q fs h.count h.feeders (f q) l;
}
  where
    nodes : (q : ℕ) → contains (g.nodes ++ p ∷ []) q ≡ (nat_lt q (p + 1) && settles d q)
    nodes q =
        contains-append g.nodes (p ∷ []) q ∙ ap {B = Bool} (λ t. t || ((q == p) || false)) (h.nodes q)
        ∙ by_test (q == p)
        (λ e. subst (λ m. ((nat_lt m p && settles d m) || ((m == p) || false)) ≡ (nat_lt m (p + 1) && settles d m)) (sym (eqb-true q p e)) (go (nat_lt p p) (settles d p) (p == p) (nat_lt p (p + 1)) s (eq-eqb p p refl) (below_same p)))
        (λ e. ap {B = Bool} (λ t. (nat_lt q p && settles d q) || (t || false)) e ∙ or_nothing (nat_lt q p && settles d q) ∙ sym (ap {B = Bool} (λ t. t && settles d q) (below_other q p e)))
      where
        go : (a s t m : Bool) → s ≡ true → t ≡ true → m ≡ true → ((a && s) || (t || false)) ≡ (m && s)
        go true true true true h k e = refl
        go false true true true h k e = refl
        go a false t m h k e = cc
        go a true false m h k e = cc
        go a true true false h k e = cc

pub graph_other : (d : Design) (p : ℕ) (g : Feeding) → IsGraphUpTo d p g → settles d p ≡ false → IsGraphUpTo d (p + 1) (with_other g)
graph_other d p g h s = record {
  count = length-append g.feeders ([] ∷ []) ∙ ap {B = ℕ} (λ n. n + 1) h.count;
  nodes = nodes;
  feeders = λ r q l. grown d g p r q [] h.count h.feeders (sym (none q)) l;
}
  where
    and_first : (a c : Bool) → a ≡ false → (a && c) ≡ false
    and_first a c h = ap {B = Bool} (λ t. t && c) h

    none : (q : ℕ) → is_feeder d p q ≡ false
    none q = weaker p d.processes s
      where
        weaker : (p : ℕ) (ps : List Process) → at_number p ps (λ x. not (is_clocked x)) ≡ false → at_number p ps (λ y. not (is_clocked y) && list_any (λ b. is_writer d b q) (needs y)) ≡ false
        weaker p [] h = refl
        weaker zero (x ∷ ps) h = and_first (not (is_clocked x)) (list_any (λ b. is_writer d b q) (needs x)) h
        weaker (suc p) (x ∷ ps) h = weaker p ps h

    nodes : (q : ℕ) → is_node g q ≡ (nat_lt q (p + 1) && settles d q)
    nodes q =
        h.nodes q
        ∙ by_test (q == p)
        (λ e. subst (λ m. (nat_lt m p && settles d m) ≡ (nat_lt m (p + 1) && settles d m)) (sym (eqb-true q p e)) (ap {B = Bool} (λ t. nat_lt p p && t) s ∙ and_nothing (nat_lt p p) ∙ sym (ap {B = Bool} (λ t. nat_lt p (p + 1) && t) s ∙ and_nothing (nat_lt p (p + 1)))))
        (λ e. sym (ap {B = Bool} (λ t. t && settles d q) (below_other q p e)))
