-- How labels spread.
use Rattle.std.proofs.Common.{◌≡◌, ℕ, zero, suc, ◌+◌, ◌≤◌, ◌<◌, Bool, true, false, List, [], ◌∷◌, ◌++◌, ◌||◌, ◌&&◌, ◌==◌, not, refl, sym, ap, ◌∙◌, subst, eqb-true, eq-eqb, get_or, set, take, length, sum_by, arith, Some, None, Option, is_some, is_none, ◌≢◌, get_or-set_same, get_or-set_other, length-append}
use Rattle.std.proofs.lemmas.List.Sums.{sum_by-set}
use Rattle.vs_design.specs.Footprints.{contains}
use Rattle.vs_clock.specs.Spread.{targets_at, label_at, has_label, IsClosedSet, is_free, effort, Labels, Spreads}
use Rattle.vs_reads.proofs.Tests.{by_test, either_way, or_left, or_right, or_neither, and_both, contains-append, contains_more}

same_other : (q p : ℕ) → (q == p) ≡ false → q ≡ p → ⊥
same_other q p h e = either_way (q == p) (subst (λ m. (q == m) ≡ true) e (eq-eqb q q refl)) h

or_nothing : (a : Bool) → (a || false) ≡ a
or_nothing true = refl
or_nothing false = refl

-- a label, or none
by_label : {P : Type 0} (o : Option ℕ) → (o ≡ None → P) → ((v : ℕ) → o ≡ Some v → P) → P
by_label None f g = f refl
by_label (Some v) f g = g v refl

some_is : (o : Option ℕ) (v : ℕ) → o ≡ Some v → is_some o ≡ true
some_is o v e = ap is_some e

none_not : {P : Type 0} (o : Option ℕ) → o ≡ None → is_some o ≡ true → P
none_not None e h = cc
none_not (Some v) e h = cc

same_label : (o : Option ℕ) (v w : ℕ) → o ≡ Some v → o ≡ Some w → v ≡ w
same_label o v w e f = some_same v w (sym e ∙ f)
  where
    some_same : (v w : ℕ) → Some v ≡ Some w → v ≡ w
    some_same v w e = cc

-- a label stays
still : (old new : List (Option ℕ)) → ((b v : ℕ) → label_at old b ≡ Some v → label_at new b ≡ Some v) → (b : ℕ) → has_label old b ≡ true → has_label new b ≡ true
still old new k b h = by_label (label_at old b) (λ e. none_not (label_at old b) e h) (λ v e. some_is (label_at new b) v (k b v e))

-- and what has none had none
none_before : (old new : List (Option ℕ)) → ((b v : ℕ) → label_at old b ≡ Some v → label_at new b ≡ Some v) → (b : ℕ) → label_at new b ≡ None → label_at old b ≡ None
none_before old new k b h = by_label (label_at old b) (λ e. e) (λ v e. none_not (label_at new b) h (some_is (label_at new b) v (k b v e)))

-- ---- one bit after the other

pub no_labels : (root : ℕ) (labels : List (Option ℕ)) (pending : List ℕ) → Labels [] root labels labels pending pending
no_labels root labels pending = record {
  kept = λ b v e. e;
  fresh = λ b e h. none_not (label_at labels b) e h;
  all = λ b h. cc;
  pending = λ b. by_label (label_at labels b) (λ e. sym (ap {B = Bool} (λ o. contains pending b || (is_none o && is_some o)) e ∙ or_nothing (contains pending b))) (λ v e. sym (ap {B = Bool} (λ o. contains pending b || (is_none o && is_some o)) e ∙ or_nothing (contains pending b)));
  less = omega arith;
}

-- a bit that has a label
pub label_had : (bits : List ℕ) (i root : ℕ) (old new : List (Option ℕ)) (before after : List ℕ) → i < length bits → has_label new (get_or bits i 0) ≡ true → Labels (take i bits) root old new before after → Labels (take (i + 1) bits) root old new before after
label_had bits i root old new before after l s h = record {
  kept = h.kept;
  fresh = λ b e k. let f = h.fresh b e k in (contains_more bits i b l ∙ or_left (contains (take i bits) b) (b == get_or bits i 0) f.0, f.1);
  all = all;
  pending = h.pending;
  less = h.less;
}
  where
    all : (b : ℕ) → contains (take (i + 1) bits) b ≡ true → has_label new b ≡ true
    all b k =
        by_test (b == get_or bits i 0)
        (λ e. subst (λ m. has_label new m ≡ true) (sym (eqb-true b (get_or bits i 0) e)) s)
        (λ e. h.all b (sym (or_nothing (contains (take i bits) b)) ∙ sym (ap {B = Bool} (λ t. contains (take i bits) b || t) e) ∙ sym (contains_more bits i b l) ∙ k))

-- and one that gets it
pub label_got : (bits : List ℕ) (i root : ℕ) (old new : List (Option ℕ)) (before after : List ℕ) → i < length bits → get_or bits i 0 < length new → label_at new (get_or bits i 0) ≡ None → Labels (take i bits) root old new before after
    → Labels (take (i + 1) bits) root old (set new (get_or bits i 0) (Some root)) before (after ++ get_or bits i 0 ∷ [])
label_got bits i root old new before after l w n h = record { kept = kept; fresh = fresh; all = all; pending = pending; less = less }
  where
    bit : ℕ
    bit = get_or bits i 0

    now : List (Option ℕ)
    now = set new bit (Some root)

    here : label_at now bit ≡ Some root
    here = rw get_or-set_same refl

    other : (b : ℕ) → (b == bit) ≡ false → label_at now b ≡ label_at new b
    other b s = let ne : b ≢ bit = same_other b bit s in rw get_or-set_other refl

    kept : (b v : ℕ) → label_at old b ≡ Some v → label_at now b ≡ Some v
    kept b v e =
        by_test (b == bit)
        (λ s. none_not (label_at new b) (subst (λ m. label_at new m ≡ None) (sym (eqb-true b bit s)) n) (some_is (label_at new b) v (h.kept b v e)))
        (λ s. other b s ∙ h.kept b v e)

    fresh : (b : ℕ) → label_at old b ≡ None → has_label now b ≡ true → (contains (take (i + 1) bits) b ≡ true) × (label_at now b ≡ Some root)
    fresh b e k =
        by_test (b == bit)
        (λ s. (contains_more bits i b l ∙ or_right (contains (take i bits) b) (b == bit) s, subst (λ m. label_at now m ≡ Some root) (sym (eqb-true b bit s)) here))
        (λ s. let f = h.fresh b e (sym (ap is_some (other b s)) ∙ k) in (contains_more bits i b l ∙ or_left (contains (take i bits) b) (b == bit) f.0, other b s ∙ f.1))

    all : (b : ℕ) → contains (take (i + 1) bits) b ≡ true → has_label now b ≡ true
    all b k =
        by_test (b == bit)
        (λ s. subst (λ m. has_label now m ≡ true) (sym (eqb-true b bit s)) (ap is_some here))
        (λ s. ap is_some (other b s) ∙ h.all b (sym (or_nothing (contains (take i bits) b)) ∙ sym (ap {B = Bool} (λ t. contains (take i bits) b || t) s) ∙ sym (contains_more bits i b l) ∙ k))

    pending : (b : ℕ) → contains (after ++ bit ∷ []) b ≡ (contains before b || (is_none (label_at old b) && has_label now b))
    pending b =
        contains-append after (bit ∷ []) b ∙ ap {B = Bool} (λ t. contains after b || t) (or_nothing (b == bit))
        ∙ by_test (b == bit)
        (λ s. or_right (contains after b) (b == bit) s ∙ sym (or_right (contains before b) (is_none (label_at old b) && has_label now b) (both s)))
        (λ s. ap {B = Bool} (λ t. contains after b || t) s ∙ or_nothing (contains after b) ∙ h.pending b ∙ sym (ap {B = Bool} (λ o. contains before b || (is_none (label_at old b) && is_some o)) (other b s)))
      where
        both : (b == bit) ≡ true → (is_none (label_at old b) && has_label now b) ≡ true
        both s =
            let e : b ≡ bit = eqb-true b bit s in
            let o : label_at old b ≡ None = none_before old new h.kept b (subst (λ m. label_at new m ≡ None) (sym e) n) in
            ap {B = Bool} (λ x. is_none x && has_label now b) o ∙ subst (λ m. has_label now m ≡ true) (sym e) (ap is_some here)

    less : effort now (after ++ bit ∷ []) ≤ effort old before
    less =
        let e : sum_by is_free now + is_free (label_at new bit) ≡ sum_by is_free new + 0 = sum_by-set is_free new bit (Some root) None w in
        let f : is_free (label_at new bit) ≡ 1 = ap is_free n in
        let k : length (after ++ bit ∷ []) ≡ length after + 1 = length-append after (bit ∷ []) in
        let m = h.less in
        omega (arith, e, f, k, m)

-- ---- the spreading

pub spread_begun : (targets : List (List ℕ)) (root : ℕ) (old new : List (Option ℕ)) (pending : List ℕ) → ((b t : ℕ) → has_label old b ≡ true → contains (targets_at targets b) t ≡ true → has_label old t ≡ true) → Labels (root ∷ []) root old new [] pending → Spreads targets root old new pending
spread_begun targets root old new pending c h = record {
  kept = h.kept;
  fresh = λ b v e f. same_label (label_at new b) v root f (h.fresh b e (some_is (label_at new b) v f)).1;
  rooted = h.all root (or_left (root == root) false (eq-eqb root root refl));
  reached = λ s closed r b e k. subst (λ m. s m ≡ true) (sym (eqb-true b root (sym (or_nothing (b == root)) ∙ (h.fresh b e k).0))) r;
  waiting = λ b k. let m = and_both (is_none (label_at old b)) (has_label new b) (sym (h.pending b) ∙ k) in (none_is (label_at old b) m.0, m.1);
  closed = λ b t k n m. still old new h.kept t (c b t (by_label (label_at old b) (λ e. either_way (contains pending b) (h.pending b ∙ ap {B = Bool} (λ o. is_none o && has_label new b) e ∙ k) n) (λ v e. some_is (label_at old b) v e)) m);
}
  where
    none_is : (o : Option ℕ) → is_none o ≡ true → o ≡ None
    none_is None h = refl
    none_is (Some v) h = cc

pub spread_on : (targets : List (List ℕ)) (root bit : ℕ) (old now new : List (Option ℕ)) (whole rest after : List ℕ) → whole ≡ rest ++ bit ∷ [] → Spreads targets root old now whole → Labels (targets_at targets bit) root now new rest after → Spreads targets root old new after
spread_on targets root bit old now new whole rest after w s h = record {
  kept = λ b v e. h.kept b v (s.kept b v e);
  fresh = fresh;
  rooted = still now new h.kept root s.rooted;
  reached = reached;
  waiting = waiting;
  closed = closed;
}
  where
    in_whole : (b : ℕ) → contains whole b ≡ (contains rest b || (b == bit))
    in_whole b = ap {B = Bool} (λ (zs : List ℕ). contains zs b) w ∙ contains-append rest (bit ∷ []) b ∙ ap {B = Bool} (λ t. contains rest b || t) (or_nothing (b == bit))

    bit_waits : (label_at old bit ≡ None) × (has_label now bit ≡ true)
    bit_waits = s.waiting bit (in_whole bit ∙ or_right (contains rest bit) (bit == bit) (eq-eqb bit bit refl))

    none_is : (o : Option ℕ) → is_none o ≡ true → o ≡ None
    none_is None h = refl
    none_is (Some v) h = cc

    fresh : (b v : ℕ) → label_at old b ≡ None → label_at new b ≡ Some v → v ≡ root
    fresh b v e f =
        by_label (label_at now b)
        (λ n. same_label (label_at new b) v root f (h.fresh b n (some_is (label_at new b) v f)).1)
        (λ u n. same_label (label_at new b) v u f (h.kept b u n) ∙ s.fresh b u e n)

    reached : (set : ℕ → Bool) → IsClosedSet targets set → set root ≡ true → (b : ℕ) → label_at old b ≡ None → has_label new b ≡ true → set b ≡ true
    reached set c r b e k =
        by_label (label_at now b)
        (λ n. c bit b (s.reached set c r bit bit_waits.0 bit_waits.1) (h.fresh b n k).0)
        (λ u n. s.reached set c r b e (some_is (label_at now b) u n))

    waiting : (b : ℕ) → contains after b ≡ true → (label_at old b ≡ None) × (has_label new b ≡ true)
    waiting b k =
        by_test (contains rest b)
        (λ e. let m = s.waiting b (in_whole b ∙ or_left (contains rest b) (b == bit) e) in (m.0, still now new h.kept b m.1))
        (λ e. let m = and_both (is_none (label_at now b)) (has_label new b) (sym (ap {B = Bool} (λ t. t || (is_none (label_at now b) && has_label new b)) e) ∙ sym (h.pending b) ∙ k) in (none_before old now s.kept b (none_is (label_at now b) m.0), m.1))

    closed : (b t : ℕ) → has_label new b ≡ true → contains after b ≡ false → contains (targets_at targets b) t ≡ true → has_label new t ≡ true
    closed b t k n m =
        let o = or_neither (contains rest b) (is_none (label_at now b) && has_label new b) (sym (h.pending b) ∙ n) in
        by_test (b == bit)
        (λ e. h.all t (subst (λ z. contains (targets_at targets z) t ≡ true) (eqb-true b bit e) m))
        (λ e.
        by_label (label_at now b)
        (λ f. either_way (is_none (label_at now b) && has_label new b) (ap {B = Bool} (λ x. is_none x && has_label new b) f ∙ k) o.1)
        (λ u f. still now new h.kept t (s.closed b t (some_is (label_at now b) u f) (in_whole b ∙ ap {B = Bool} (λ z. z || (b == bit)) o.0 ∙ e) m)))

-- what has a label is in range
pub label_within : (labels : List (Option ℕ)) (b : ℕ) → has_label labels b ≡ true → b < length labels
label_within [] b h = cc
label_within (l ∷ ls) zero h = omega arith
label_within (l ∷ ls) (suc b) h = let k = label_within ls b h in omega (arith, k)

-- what is pending has one
pub pending_label : (targets : List (List ℕ)) (root : ℕ) (old new : List (Option ℕ)) (whole rest : List ℕ) (bit : ℕ) → whole ≡ rest ++ bit ∷ [] → Spreads targets root old new whole → has_label new bit ≡ true
pending_label targets root old new whole rest bit w s = (s.waiting bit (ap {B = Bool} (λ (zs : List ℕ). contains zs bit) w ∙ contains-append rest (bit ∷ []) bit ∙ or_right (contains rest bit) ((bit == bit) || false) (or_left (bit == bit) false (eq-eqb bit bit refl)))).1

pub none_by : (o : Option ℕ) (r : Bool) → is_some o ≡ not r → r ≡ true → o ≡ None
none_by None r h k = refl
none_by (Some v) true h k = cc
none_by (Some v) false h k = cc

pub some_by : (o : Option ℕ) (r : Bool) → is_some o ≡ not r → r ≡ false → is_some o ≡ true
some_by o true h k = cc
some_by o false h k = h
