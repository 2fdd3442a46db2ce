-- The nets that a bit leads to through assigns that copy it, and the labels that spread along them.
use Rattle.std.proofs.Common.{◌≡◌, ℕ, zero, suc, ◌+◌, ◌<◌, Bool, true, false, List, [], ◌∷◌, ◌++◌, ◌||◌, ◌&&◌, ◌==◌, refl, sym, ap, ◌∙◌, subst, eqb-true, eq-eqb, get_or, take, replicate, length, arith, Some, None, Option, is_some, find, if◌then◌else◌, nat_lt, inl, inr}
use Rattle.std.specs.Prelude.{slice_get}
use Rattle.std.proofs.lemmas.Bool.{ltb-true, ltb-false}
use Rattle.std.proofs.lemmas.List.{take_more, take_all}
use Rattle.std.proofs.Math.ListN.{get_or-eq_default}
use Rattle.std.proofs.Math.Seq.{take-append_seam}
use Rattle.std.proofs.Math.Nat.{le_refl}
use Rattle.vs_design.specs.Expressions.{Signal, signal_length}
use Rattle.vs_design.specs.Statements.{Whole, PartOf, WordOf, WordPartOf, Both}
use Rattle.vs_design.specs.Designs.{Process, Continuous, Always, Design, bit_count}
use Rattle.vs_design.specs.Footprints.{contains}
use Rattle.vs_design.specs.Clocks.{name_of, is_one_of, port_target, port_targets, nets_within, clock_nets}
use Rattle.vs_design.specs.Dead.{ports_alone}
use Rattle.vs_design.specs.Elaborated.{IsLawfulDesign}
use Rattle.vs_design.specs.Laws.{BitsOfDesign, ClockNetsAre}
use Rattle.vs_clock.specs.Ports.{bit_of, both_bits, port_bits, ported_bits, is_copy, copies_by, copies, AreTargets}
use Rattle.vs_clock.specs.Roots.{AreAllTargets, AreClosed, root_among, AreRoots}
use Rattle.vs_clock.specs.Spread.{targets_at, label_at, has_label, IsClosedSet, Spreads}
use Rattle.vs_reads.proofs.Tests.{by_test, either_way, or_left, or_right, and_both, and_true, contains-append, contains_head}
use Rattle.vs_clock.proofs.Copies.{copy_below, ported_is, copies_ported}

or_nothing : (a : Bool) → (a || false) ≡ a
or_nothing true = refl
or_nothing false = refl

-- ---- all ports

-- a process that copies the bit
copier : (bits : Process → Option (ℕ × ℕ)) (ps : List Process) (b t : ℕ) → copies_by bits ps b t ≡ true → (p : ℕ) × (x : Process) × (slice_get ps p ≡ Some x) × (bits x ≡ Some (b, t))
copier bits [] b t h = cc
copier bits (x ∷ ps) b t h =
    by_test (is_copy b t (bits x))
    (λ e. (0, x, refl, those (bits x) e))
    (λ e. let r = copier bits ps b t (subst (λ z. (z || copies_by bits ps b t) ≡ true) e h) in (suc r.0, r.1, r.2, r.3))
  where
    those : (o : Option (ℕ × ℕ)) → is_copy b t o ≡ true → o ≡ Some (b, t)
    those None e = cc
    those (Some (from, to)) e =
        let k = and_both (b == from) (t == to) e in
        ap {B = Option (ℕ × ℕ)} (λ n. Some (n, to)) (sym (eqb-true b from k.0)) ∙ ap {B = Option (ℕ × ℕ)} (λ n. Some (b, n)) (sym (eqb-true t to k.1))

-- what they copy are copies of assigns, of all or of some of them
module _ (law : BitsOfDesign) (d : Design) (l : IsLawfulDesign d) (bits : Process → Option (ℕ × ℕ)) (some : (x : Process) (b t : ℕ) → bits x ≡ Some (b, t) → port_bits x ≡ Some (b, t)) (targets : List (List ℕ)) where
  pub all_copies : length targets ≡ bit_count d → AreTargets bits d (length d.processes) targets → (b t : ℕ) → contains (targets_at targets b) t ≡ copies_by bits d.processes b t
  all_copies c h b t =
      by_test (nat_lt b (length targets))
      (λ e. h b t (ltb-true b (length targets) e) ∙ ap {B = Bool} (λ ps. copies_by bits ps b t) (take_all (length d.processes) d.processes (le_refl (length d.processes))))
      (λ e. ap {B = Bool} (λ zs. contains zs t) (get_or-eq_default targets [] (ltb-false b (length targets) e)) ∙ sym (none e))
    where
      none : nat_lt b (length targets) ≡ false → copies_by bits d.processes b t ≡ false
      none e =
          by_test (copies_by bits d.processes b t)
          (λ k. let r = copier bits d.processes b t k in let f = (copy_below law d l r.0 r.1 b t r.2 (some r.1 b t r.3)).0 in let g = ltb-false b (length targets) e in absurd (omega (arith, f, g, c)))
          (λ k. k)

  pub copies_below : length targets ≡ bit_count d → AreTargets bits d (length d.processes) targets → (b t : ℕ) → contains (targets_at targets b) t ≡ true → t < length targets
  copies_below c h b t k =
      let r = copier bits d.processes b t (sym (all_copies c h b t) ∙ k) in
      subst (λ n. t < n) (sym c) (copy_below law d l r.0 r.1 b t r.2 (some r.1 b t r.3)).1

pub all_targets : BitsOfDesign → (d : Design) → IsLawfulDesign d → (targets : List (List ℕ)) → length targets ≡ bit_count d → AreTargets port_bits d (length d.processes) targets → AreAllTargets d targets
all_targets law d l targets c h = all_copies law d l port_bits (λ x b t e. e) targets c h

pub all_ported : BitsOfDesign → (d : Design) → IsLawfulDesign d → (targets : List (List ℕ)) → length targets ≡ bit_count d → AreTargets ported_bits d (length d.processes) targets → AreAllTargets (ports_alone d) targets
all_ported law d l targets c h b t = all_copies law d l ported_bits ported_is targets c h b t ∙ copies_ported d.processes b t

-- ---- port targets

-- a port leads from one of the nets to the bit
abbrev pub hits : List ℕ → ℕ → Option (ℕ × ℕ) → Bool
hits nets t None = false
hits nets t (Some (from, to)) = contains nets from && (t == to)

pub target_hits : (nets : List ℕ) (x : Process) (t : ℕ) → contains (port_target nets x) t ≡ hits nets t (port_bits x)
target_hits nets (Continuous place port target_place (Whole signal) e) t = go (name_of e) (signal_length signal == 1)
  where
    and_nothing : (a : Bool) → (a && false) ≡ false
    and_nothing true = refl
    and_nothing false = refl

    go : (o : Option Signal) (k : Bool) → contains (if is_one_of nets o && k then (signal.first ∷ []) else []) t ≡ hits nets t (both_bits (bit_of o) (if k then Some signal.first else None))
    go None k = refl
    go (Some s) k = step (signal_length s == 1) k
      where
        step : (j k : Bool) → contains (if (j && contains nets s.first) && k then (signal.first ∷ []) else []) t ≡ hits nets t (both_bits (if j then Some s.first else None) (if k then Some signal.first else None))
        step true true = last (contains nets s.first)
          where
            last : (c : Bool) → contains (if c && true then (signal.first ∷ []) else []) t ≡ (c && (t == signal.first))
            last true = or_nothing (t == signal.first)
            last false = refl
        step true false = ap {B = Bool} (λ c. contains (if c then (signal.first ∷ []) else []) t) (and_nothing (contains nets s.first))
        step false k = refl
target_hits nets (Continuous place port target_place (PartOf signal part index) e) t = refl
target_hits nets (Continuous place port target_place (WordOf signal index) e) t = refl
target_hits nets (Continuous place port target_place (WordPartOf signal address part index) e) t = refl
target_hits nets (Continuous place port target_place (Both high low) e) t = refl
target_hits nets (Always place star events statement) t = refl

-- what a port leads to from a net
pub led : (nets : List ℕ) (ps : List Process) (t : ℕ) → contains (port_targets nets ps) t ≡ true → (b : ℕ) × (contains nets b ≡ true) × (copies ps b t ≡ true)
led nets [] t h = cc
led nets (x ∷ ps) t h =
    by_test (contains (port_target nets x) t)
    (λ e. here (port_bits x) refl (sym (target_hits nets x t) ∙ e))
    (λ e. let r = led nets ps t (subst (λ z. (z || contains (port_targets nets ps) t) ≡ true) e (sym (contains-append (port_target nets x) (port_targets nets ps) t) ∙ h)) in (r.0, r.1, or_right (is_copy r.0 t (port_bits x)) (copies ps r.0 t) r.2))
  where
    here : (o : Option (ℕ × ℕ)) → port_bits x ≡ o → hits nets t o ≡ true → (b : ℕ) × (contains nets b ≡ true) × (copies (x ∷ ps) b t ≡ true)
    here None f k = cc
    here (Some (from, to)) f k =
        let m = and_both (contains nets from) (t == to) k in
        (from, m.0, or_left (is_copy from t (port_bits x)) (copies ps from t) (ap (is_copy from t) f ∙ and_true (from == from) (t == to) (eq-eqb from from refl) m.1))

pub leads : (nets : List ℕ) (ps : List Process) (b t : ℕ) → contains nets b ≡ true → copies ps b t ≡ true → contains (port_targets nets ps) t ≡ true
leads nets [] b t h k = cc
leads nets (x ∷ ps) b t h k =
    contains-append (port_target nets x) (port_targets nets ps) t
    ∙ by_test (is_copy b t (port_bits x))
    (λ e. or_left (contains (port_target nets x) t) (contains (port_targets nets ps) t) (target_hits nets x t ∙ here (port_bits x) e))
    (λ e. or_right (contains (port_target nets x) t) (contains (port_targets nets ps) t) (leads nets ps b t h (subst (λ z. (z || copies ps b t) ≡ true) e k)))
  where
    here : (o : Option (ℕ × ℕ)) → is_copy b t o ≡ true → hits nets t o ≡ true
    here None e = cc
    here (Some (from, to)) e = let m = and_both (b == from) (t == to) e in and_true (contains nets from) (t == to) (subst (λ n. contains nets n ≡ true) (eqb-true b from m.0) h) m.1

-- ---- nets are the least closed set

nets_least : (d : Design) (targets : List (List ℕ)) (root : ℕ) (set : ℕ → Bool) → AreAllTargets d targets → IsClosedSet targets set → set root ≡ true → (n b : ℕ) → contains (nets_within n d.processes (root ∷ [])) b ≡ true → set b ≡ true
nets_least d targets root set a c r zero b h = subst (λ m. set m ≡ true) (sym (eqb-true b root (sym (or_nothing (b == root)) ∙ h))) r
nets_least d targets root set a c r (suc n) b h =
    by_test (b == root)
    (λ e. subst (λ m. set m ≡ true) (sym (eqb-true b root e)) r)
    (λ e. let k = led (nets_within n d.processes (root ∷ [])) d.processes b (subst (λ z. (z || contains (port_targets (nets_within n d.processes (root ∷ [])) d.processes) b) ≡ true) e h) in c k.0 b (nets_least d targets root set a c r n k.0 k.1) (a k.0 b ∙ k.2))

nets_closed : ClockNetsAre → (d : Design) (targets : List (List ℕ)) (root : ℕ) → AreAllTargets d targets → IsClosedSet targets (contains (clock_nets d (root ∷ [])))
nets_closed law d targets root a b t h k = (law d (root ∷ []) t).1 (inr (leads (clock_nets d (root ∷ [])) d.processes b t h (sym (a b t) ∙ k)))

root_in : ClockNetsAre → (d : Design) (root : ℕ) → contains (clock_nets d (root ∷ [])) root ≡ true
root_in law d root = (law d (root ∷ []) root).1 (inl (contains_head root []))

-- ---- the labels

none_is : (o : Option ℕ) → is_some o ≡ false → o ≡ None
none_is None h = refl
none_is (Some v) h = cc

by_label : {P : Type 0} (o : Option ℕ) → (o ≡ None → P) → ((v : ℕ) → o ≡ Some v → P) → P
by_label None f g = f refl
by_label (Some v) f g = g v refl

find-append : (f : ℕ → Bool) (xs : List ℕ) (x : ℕ) → find f (xs ++ x ∷ []) ≡ (elim (find f xs) as (λ (o : Option ℕ). Option ℕ) [ None ↦ (if f x then Some x else None) | Some v ↦ Some v ])
find-append f [] x = refl
find-append f (y ∷ ys) x = by_test (f y) (λ e. rw e refl) (λ e. rw e (find-append f ys x))

-- one root more
pub roots_more : ClockNetsAre → (d : Design) (targets : List (List ℕ)) (roots : List ℕ) (i : ℕ) (old new : List (Option ℕ)) → AreAllTargets d targets → i < length roots → Spreads targets (get_or roots i 0) old new [] → AreRoots d (take i roots) old → AreRoots d (take (i + 1) roots) new
roots_more law d targets roots i old new a l s h b =
    step (root_among d (take i roots) b) refl
    ∙ sym (ap (find (λ i. contains (clock_nets d (i ∷ [])) b)) (take_more roots i 0 l) ∙ find-append (λ i. contains (clock_nets d (i ∷ [])) b) (take i roots) root)
  where
    root : ℕ
    root = get_or roots i 0

    now : ℕ → Bool
    now b = has_label new b

    all : IsClosedSet targets now
    all b t k m = s.closed b t k refl m

    step : (o : Option ℕ) → root_among d (take i roots) b ≡ o → label_at new b ≡ (elim o as (λ (o : Option ℕ). Option ℕ) [ None ↦ (if contains (clock_nets d (root ∷ [])) b then Some root else None) | Some v ↦ Some v ])
    step (Some v) e = s.kept b v (h b ∙ e)
    step None e =
        by_test (contains (clock_nets d (root ∷ [])) b)
        (λ k. rw k (labelled (nets_least d targets root now a all s.rooted (length d.processes) b k)))
        (λ k. rw k (none_is (label_at new b) (by_test (has_label new b) (λ m. either_way (contains (clock_nets d (root ∷ [])) b) (s.reached (contains (clock_nets d (root ∷ []))) (nets_closed law d targets root a) (root_in law d root) b (h b ∙ e) m) k) (λ m. m))))
      where
        labelled : has_label new b ≡ true → label_at new b ≡ Some root
        labelled m = by_label (label_at new b) (λ n. either_way (has_label new b) m (ap is_some n)) (λ v n. n ∙ ap Some (s.fresh b v (h b ∙ e) n))

pub no_roots : (d : Design) (labels : List (Option ℕ)) → ((b : ℕ) → label_at labels b ≡ None) → AreRoots d [] labels
no_roots d labels h b = h b

-- where nothing is labelled yet
pub none_labelled : (labels : List (Option ℕ)) (n : ℕ) → labels ≡ replicate n None → ((b : ℕ) → label_at labels b ≡ None) × ((targets : List (List ℕ)) → AreClosed targets labels)
none_labelled labels n is = (none, λ targets b t h k. absurd (either_way (has_label labels b) h (ap is_some (none b))))
  where
    at : (n b : ℕ) → label_at (replicate n None) b ≡ None
    at zero zero = refl
    at zero (suc b) = refl
    at (suc n) zero = refl
    at (suc n) (suc b) = at n b

    none : (b : ℕ) → label_at labels b ≡ None
    none b = ap (λ (ls : List (Option ℕ)). label_at ls b) is ∙ at n b

-- what is labelled leads to what is labelled
pub roots_closed : ClockNetsAre → (d : Design) (targets : List (List ℕ)) (roots : List ℕ) (labels : List (Option ℕ)) → AreAllTargets d targets → AreRoots d roots labels → (b t : ℕ) → has_label labels b ≡ true → contains (targets_at targets b) t ≡ true → has_label labels t ≡ true
roots_closed law d targets roots labels a h b t k m = ap is_some (h t) ∙ go roots (sym (ap is_some (h b)) ∙ k)
  where
    go : (xs : List ℕ) → is_some (root_among d xs b) ≡ true → is_some (root_among d xs t) ≡ true
    go [] e = cc
    go (x ∷ xs) e =
        by_test (contains (clock_nets d (x ∷ [])) t)
        (λ f. rw f refl)
        (λ f. rw f (go xs (by_test (contains (clock_nets d (x ∷ [])) b) (λ g. either_way (contains (clock_nets d (x ∷ [])) t) (nets_closed law d targets x a b t g m) f) (λ g. sym (ap {B = Bool} (λ z. is_some (if z then Some x else root_among d xs b)) g) ∙ e))))

-- a slice of a whole list is the list
pub seam : (n : ℕ) (xs ys : List (Option ℕ)) → n ≡ length xs → take n (xs ++ ys) ≡ xs
seam n xs ys h = ap {B = List (Option ℕ)} (λ m. take m (xs ++ ys)) h ∙ take-append_seam xs ys
