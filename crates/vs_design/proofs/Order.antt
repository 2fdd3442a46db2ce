-- What a level order gives.
use Rattle.std.proofs.Common.{◌≡◌, ℕ, zero, suc, ◌+◌, Bool, true, false, List, [], ◌∷◌, ◌||◌, ◌&&◌, not, ◌⊎◌, inl, inr, refl, sym, ap, ◌∙◌, subst, arith, ◌==◌, eqb-true, eq-eqb, Some}
use Rattle.std.specs.Prelude.{slice_get}
use Rattle.std.specs.List.{list_any}
use Rattle.vs_net.specs.Network.{Network, AnAssign, AComb, kind, writes, listens}
use Rattle.vs_net.specs.Network as N
use Rattle.vs_net.specs.Lawful.{Settles, IsOrdered, IsOnce}
use Rattle.vs_design.specs.Designs.{Process, Continuous, Always, is_clocked, Initial, Design}
use Rattle.vs_design.specs.Footprints.{contains, writes_of, reads_of, waits_of}
use Rattle.vs_design.specs.Levels.{needs, feeds, is_ready, has_all, at_number, is_order_after}
use Rattle.vs_design.specs.Networks.{network_in, network_of}
use Rattle.vs_design.proofs.Lists.{by_test, and_both, or_left, or_right, contains-left, contains-right}
use Rattle.vs_design.proofs.Writes.{either_way}
use Rattle.vs_design.proofs.Parts.{by_kind}

same_option : {A : Type 0} (x y : A) → Some x ≡ Some y → x ≡ y
same_option x y e = cc

pub feeds_by : (q p : Process) (b : ℕ) → contains (writes_of q) b ≡ true → contains (needs p) b ≡ true → feeds q p ≡ true
feeds_by q p b h k = go (writes_of q) h
  where
    go : (bs : List ℕ) → contains bs b ≡ true → list_any (contains (needs p)) bs ≡ true
    go [] h = cc
    go (c ∷ bs) h =
        by_test (b == c)
        (λ e. or_left (contains (needs p) c) (list_any (contains (needs p)) bs) (subst (λ x. contains (needs p) x ≡ true) (eqb-true b c e) k))
        (λ e. or_right (contains (needs p) c) (list_any (contains (needs p)) bs) (go bs (subst (λ x. (x || contains bs b) ≡ true) e h)))

pub ready_at : (placed : List ℕ) (k : ℕ) (ps : List Process) (p : Process) (n : ℕ) (x : Process) → is_ready placed k ps p ≡ true → slice_get ps n ≡ Some x → is_clocked x ≡ false → feeds x p ≡ true → contains placed (k + n) ≡ true
ready_at placed k [] p n x h e c f = cc
ready_at placed k (y ∷ ps) p zero x h e c f =
    let q = and_both (is_clocked y || not (feeds y p) || contains placed k) (is_ready placed (suc k) ps p) h in
    let s = same_option y x e in
    let t : (is_clocked x || not (feeds x p) || contains placed k) ≡ true = subst (λ z. (is_clocked z || not (feeds z p) || contains placed k) ≡ true) s q.0 in
    subst (λ m. contains placed m ≡ true) (omega arith) (go (is_clocked x) (feeds x p) (contains placed k) c f t)
  where
    go : (a b r : Bool) → a ≡ false → b ≡ true → (a || not b || r) ≡ true → r ≡ true
    go true b r h k l = cc
    go false true r h k l = l
    go false false r h k l = cc
ready_at placed k (y ∷ ps) p (suc n) x h e c f =
    let q = and_both (is_clocked y || not (feeds y p) || contains placed k) (is_ready placed (suc k) ps p) h in
    subst (λ m. contains placed m ≡ true) (omega arith) (ready_at placed (suc k) ps p n x q.1 e c f)

all_placed : (placed : List ℕ) (k : ℕ) (ps : List Process) (n : ℕ) (x : Process) → has_all placed k ps ≡ true → slice_get ps n ≡ Some x → is_clocked x ≡ false → contains placed (k + n) ≡ true
all_placed placed k [] n x h e c = cc
all_placed placed k (y ∷ ps) zero x h e c =
    let q = and_both (is_clocked y || contains placed k) (has_all placed (suc k) ps) h in
    subst (λ m. contains placed m ≡ true) (omega arith) (subst (λ z. (z || contains placed k) ≡ true) (subst (λ z. is_clocked z ≡ false) (sym (same_option y x e)) c) q.0)
all_placed placed k (y ∷ ps) (suc n) x h e c =
    let q = and_both (is_clocked y || contains placed k) (has_all placed (suc k) ps) h in
    subst (λ m. contains placed m ≡ true) (omega arith) (all_placed placed (suc k) ps n x q.1 e c)

pub at_is : (p : ℕ) (ps : List Process) (test : Process → Bool) → at_number p ps test ≡ true → (x : Process) × (slice_get ps p ≡ Some x) × (test x ≡ true)
at_is p [] test h = cc
at_is zero (x ∷ ps) test h = (x, refl, h)
at_is (suc p) (x ∷ ps) test h = at_is p ps test h

-- at the end each is placed, and at each turn the process is ready
pub record Turn (d : Design) (placed : List ℕ) (p : ℕ) (order : List ℕ) : Type 0 where
  pub fresh : contains placed p ≡ false
  pub process : Process
  pub is : slice_get d.processes p ≡ Some process
  pub settles : is_clocked process ≡ false
  pub ready : (r : ℕ) (x : Process) (b : ℕ) → slice_get d.processes r ≡ Some x → is_clocked x ≡ false → contains (writes_of x) b ≡ true → contains (needs process) b ≡ true → contains placed r ≡ true
  pub rest : is_order_after (p ∷ placed) d order ≡ true

not_true : (a : Bool) → not a ≡ true → a ≡ false
not_true true h = cc
not_true false h = refl

pub turn_of : (d : Design) (placed : List ℕ) (p : ℕ) (order : List ℕ) → is_order_after placed d (p ∷ order) ≡ true → Turn d placed p order
turn_of d placed p order h =
    let a = and_both (not (contains placed p) && at_number p d.processes (λ process. not (is_clocked process) && is_ready placed 0 d.processes process)) (is_order_after (p ∷ placed) d order) h in
    let b = and_both (not (contains placed p)) (at_number p d.processes (λ process. not (is_clocked process) && is_ready placed 0 d.processes process)) a.0 in
    let c = at_is p d.processes (λ process. not (is_clocked process) && is_ready placed 0 d.processes process) b.1 in
    let e = and_both (not (is_clocked c.0)) (is_ready placed 0 d.processes c.0) c.2 in
    record {
      fresh = not_true (contains placed p) b.0;
      process = c.0;
      is = c.1;
      settles = not_true (is_clocked c.0) e.0;
      ready = λ r x w f g i j. subst (λ m. contains placed m ≡ true) (omega arith) (ready_at placed 0 d.processes c.0 r x e.1 f g (feeds_by x c.0 w i j));
      rest = a.1;
    }

pub all_at_end : (d : Design) (placed : List ℕ) (n : ℕ) (x : Process) → is_order_after placed d [] ≡ true → slice_get d.processes n ≡ Some x → is_clocked x ≡ false → contains placed n ≡ true
all_at_end d placed n x h e c = subst (λ m. contains placed m ≡ true) (omega arith) (all_placed placed 0 d.processes n x h e c)

-- no process feeds itself
pub no_loop : (d : Design) (order placed : List ℕ) (p : ℕ) (x : Process) (b : ℕ) → is_order_after placed d order ≡ true → contains placed p ≡ false → slice_get d.processes p ≡ Some x → is_clocked x ≡ false → contains (writes_of x) b ≡ true → contains (needs x) b ≡ true → ⊥
no_loop d [] placed p x b h f e c w n = either_way (contains placed p) (all_at_end d placed p x h e c) f
no_loop d (q ∷ order) placed p x b h f e c w n =
    let t = turn_of d placed q order h in
    by_test (p == q)
    (λ k.
    let e' = subst (λ m. slice_get d.processes m ≡ Some x) (eqb-true p q k) e in
    let s : t.process ≡ x = same_option t.process x (sym t.is ∙ e') in
    either_way (contains placed p) (t.ready p x b e c w (subst (λ z. contains (needs z) b ≡ true) (sym s) n)) f)
    (λ k. no_loop d order (q ∷ placed) p x b t.rest (ap (λ z. z || contains placed p) k ∙ f) e c w n)

-- ---- the order of the network

-- what a settling process of the network is
pub record Settler (d : Design) (p : ℕ) (process : N.Process) : Type 0 where
  pub x : Process
  pub is : slice_get d.processes p ≡ Some x
  pub settles : is_clocked x ≡ false
  pub writes_it : (b : ℕ) → writes process b ≡ contains (writes_of x) b
  pub needs_it : (b : ℕ) → listens process b ≡ true → contains (needs x) b ≡ true

pub settler : (d : Design) (c : List ℕ) (p : ℕ) → Settles (kind ((network_of d c).process p)) → Settler d p ((network_of d c).process p)
settler d c = by_kind d c (λ p x. Settles (kind x) → Settler d p x) (record {
  assigns = λ p place port target_place target e h s. record { x = Continuous place port target_place target e; is = h; settles = refl; writes_it = λ b. refl; needs_it = λ b k. contains-left _ [] b k };
  combs = λ p place star events st h k s. record { x = Always place star events st; is = h; settles = k; writes_it = λ b. refl; needs_it = λ b l. contains-right (reads_of (Always place star events st)) (waits_of (Always place star events st)) b l };
  clocked = λ p place star events st h k s. absurd s;
  inputs = λ p i s l e f g. absurd g;
  clock = λ p i s l e f g. absurd g;
  spare = λ p i m l f named past g. absurd g;
  keeper = λ p l m bs e g. absurd g;
  none = λ p s. absurd s;
})

pub is_ordered : (d : Design) (c : List ℕ) (is : List Initial) (order placed : List ℕ) (P : ℕ → Type 0) → is_order_after placed d order ≡ true → ((p : ℕ) → contains placed p ≡ true → P p) → IsOrdered (network_in d c is) P order
is_ordered d c is [] placed P h f = λ p s. let t = settler d c p s in f p (all_at_end d placed p t.x h t.is t.settles)
is_ordered d c is (p ∷ order) placed P h f =
    let t = turn_of d placed p order h in (
      (λ b r l w s.
          let u = settler d c r s in
          f r (t.ready r u.x b u.is u.settles (sym (u.writes_it b) ∙ w) (listened b l t))),
      is_ordered d c is order (p ∷ placed) (λ r. P r ⊎ (r ≡ p)) t.rest (λ r k. by_test (r == p) (λ e. inr (eqb-true r p e)) (λ e. inl (f r (subst (λ z. (z || contains placed r) ≡ true) e k)))),
    )
  where
    listened : (b : ℕ) → listens ((network_of d c).process p) b ≡ true → (t : Turn d placed p order) → contains (needs t.process) b ≡ true
    listened b l t =
        let u = settler d c p (has_kind b l) in
        subst (λ z. contains (needs z) b ≡ true) (same_option u.x t.process (sym u.is ∙ t.is)) (u.needs_it b l)
      where
        has_kind : (b : ℕ) → listens ((network_of d c).process p) b ≡ true → Settles (kind ((network_of d c).process p))
        has_kind b l = by_kind d c (λ p x. listens x b ≡ true → Settles (kind x)) (record {
          assigns = λ p place port target_place target e h l. tt;
          combs = λ p place star events st h k l. tt;
          clocked = λ p place star events st h k l. absurd (either_way false l refl);
          inputs = λ p i s l e f g. absurd (either_way false g refl);
          clock = λ p i s l e f g. absurd (either_way false g refl);
          spare = λ p i m l f named past g. absurd (either_way false g refl);
          keeper = λ p l m bs e g. absurd (either_way false g refl);
          none = λ p l. absurd (either_way false l refl);
        }) p l

-- each process stands once in a level order
pub is_once : (d : Design) (order placed : List ℕ) (P : ℕ → Type 0) → is_order_after placed d order ≡ true → ((p : ℕ) → P p → contains placed p ≡ true) → IsOnce P order
is_once d [] placed P h f = tt
is_once d (p ∷ order) placed P h f =
    let t = turn_of d placed p order h in
    ((λ q. either_way (contains placed p) (f p q) t.fresh), is_once d order (p ∷ placed) (λ r. P r ⊎ (r ≡ p)) t.rest (λ r q. elim q [ inl k ↦ or_right (r == p) (contains placed r) (f r k) | inr e ↦ or_left (r == p) (contains placed r) (eq-eqb r p e) ]))
