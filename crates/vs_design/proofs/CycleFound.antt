-- There is a level order exactly where there is no cycle.
use Rattle.std.proofs.Common.{◌≡◌, ℕ, zero, suc, ◌+◌, ◌<◌, true, false, List, [], ◌∷◌, ◌++◌, ◌||◌, ◌==◌, refl, sym, ap, ◌∙◌, subst, length, arith, eqb-true, Some}
use Rattle.std.proofs.lemmas.Option.{slice_get_within}
use Rattle.vs_design.specs.Designs.{Process, Design}
use Rattle.vs_design.specs.Footprints.{contains, writes_of}
use Rattle.vs_design.specs.Levels.{needs, level_order, has_all, is_order_after, is_level_order, has_no_cycle}
use Rattle.vs_design.specs.Cycles.{Feeds, IsChain, AreApart, AreAtLeast, IsCycle}
use Rattle.vs_design.specs.Laws.{OrderOrCycle}
use Rattle.vs_design.proofs.Lists.{by_test, or_right, or_false, contains_head}
use Rattle.vs_design.proofs.Writes.{either_way}
use Rattle.vs_design.proofs.TimeBits.{any_bit}
use Rattle.vs_design.proofs.Order.{Turn, turn_of, all_at_end}
use Rattle.vs_design.proofs.Apart.{few_below, apart_left, apart_turned, least_append, Cut, cut_least}
use Rattle.vs_design.proofs.LevelTurns.{Stuck, stuck_one, stuck_feeder, level_whole}

-- ---- a cycle, from what is stuck

-- each feeds the next one
abbrev IsPath : Design → List ℕ → Type 0
IsPath d [] = Unit {0}
IsPath d (p ∷ []) = Unit {0}
IsPath d (p ∷ q ∷ ps) = Feeds d p q × IsPath d (q ∷ ps)

record Loop (d : Design) : Type 0 where
  pub first : ℕ
  pub rest : List ℕ
  pub chain : IsChain d (first ∷ rest) first
  pub apart : AreApart (first ∷ rest)

-- a path up to q, which feeds r
record Upto (d : Design) (p : ℕ) (ps : List ℕ) (r : ℕ) : Type 0 where
  pub inner : List ℕ
  pub left : List ℕ
  pub is : ps ≡ inner ++ left
  pub chain : IsChain d (p ∷ inner) r

upto : (d : Design) (p : ℕ) (ps : List ℕ) (q r : ℕ) → contains (p ∷ ps) q ≡ true → IsPath d (p ∷ ps) → Feeds d q r → Upto d p ps r
upto d p [] q r c h f = record { inner = []; left = []; is = refl; chain = subst (λ m. Feeds d m r) (here c) f }
  where
    here : ((q == p) || false) ≡ true → q ≡ p
    here c = by_test (q == p) (λ e. eqb-true q p e) (λ e. absurd (either_way ((q == p) || false) c (or_false (q == p) false e refl)))
upto d p (n ∷ ps) q r c h f =
    by_test (q == p)
    (λ e. record { inner = []; left = n ∷ ps; is = refl; chain = subst (λ m. Feeds d m r) (eqb-true q p e) f })
    (λ e. let u = upto d n ps q r (subst (λ x. (x || contains (n ∷ ps) q) ≡ true) e c) h.1 f in record { inner = n ∷ u.inner; left = u.left; is = ap {B = List ℕ} (λ zs. n ∷ zs) u.is; chain = (h.0, u.chain) })

search : (d : Design) (fuel p : ℕ) (ps : List ℕ) → IsPath d (p ∷ ps) → AreApart (p ∷ ps) → ((b : ℕ) → contains (p ∷ ps) b ≡ true → b < length d.processes) → length d.processes < fuel + length (p ∷ ps) → Stuck d p → Loop d
search d zero p ps h a k l s = let f = few_below (length d.processes) (p ∷ ps) a k in absurd (omega (arith, f))
search d (suc fuel) p ps h a k l s =
    let r = stuck_feeder d p s in
    let f : Feeds d r.0 p = record { from = r.1.process; to = s.process; from_is = r.1.is; to_is = s.is; from_settles = r.1.settles; to_settles = s.settles; fed = r.2 } in
    by_test (contains (p ∷ ps) r.0)
    (λ e. closed (upto d p ps r.0 p e h f))
    (λ e. search d fuel r.0 (p ∷ ps) (f, h) (e, a) (λ b c. by_test (b == r.0) (λ q. subst (λ m. m < length d.processes) (sym (eqb-true b r.0 q)) (slice_get_within d.processes r.0 r.1.process r.1.is)) (λ q. k b (subst (λ x. (x || contains (p ∷ ps) b) ≡ true) q c))) (omega (arith, l)) r.1)
  where
    closed : Upto d p ps p → Loop d
    closed u = record { first = p; rest = u.inner; chain = u.chain; apart = apart_left (p ∷ u.inner) u.left (subst (λ zs. AreApart (p ∷ zs)) u.is a) }

-- ---- the least first

chain_parts : (d : Design) (xs : List ℕ) (y : ℕ) (ys : List ℕ) (last : ℕ) → IsChain d (xs ++ y ∷ ys) last → IsChain d xs y × IsChain d (y ∷ ys) last
chain_parts d [] y ys last h = (tt, h)
chain_parts d (x ∷ []) y ys last h = (h.0, h.1)
chain_parts d (x ∷ z ∷ xs) y ys last h = let k = chain_parts d (z ∷ xs) y ys last h.1 in ((h.0, k.0), k.1)

chain_join : (d : Design) (xs : List ℕ) (y : ℕ) (ys : List ℕ) (last : ℕ) → IsChain d xs y → IsChain d (y ∷ ys) last → IsChain d (xs ++ y ∷ ys) last
chain_join d [] y ys last h k = k
chain_join d (x ∷ []) y ys last h k = (h, k)
chain_join d (x ∷ z ∷ xs) y ys last h k = (h.0, chain_join d (z ∷ xs) y ys last h.1 k)

turned : (d : Design) → Loop d → (ps : List ℕ) × IsCycle d ps
turned d o = go (cut_least o.first o.rest)
  where
    same_head : (x y : ℕ) (xs ys : List ℕ) → x ∷ xs ≡ y ∷ ys → x ≡ y
    same_head x y xs ys e = cc

    by_parts : (before : List ℕ) (at : ℕ) (after : List ℕ) → o.first ∷ o.rest ≡ before ++ at ∷ after → AreAtLeast at before → AreAtLeast at after → (ps : List ℕ) × IsCycle d ps
    by_parts [] at after e h k =
        let m : o.first ≡ at = same_head o.first at o.rest after e in
        (at ∷ after, (subst (λ z. IsChain d (at ∷ after) z) m (subst (λ zs. IsChain d zs o.first) e o.chain), subst AreApart e o.apart, k))
    by_parts (b ∷ bs) at after e h k =
        let m : o.first ≡ b = same_head o.first b o.rest (bs ++ at ∷ after) e in
        let c = chain_parts d (b ∷ bs) at after o.first (subst (λ zs. IsChain d zs o.first) e o.chain) in
        (at ∷ (after ++ b ∷ bs), (chain_join d (at ∷ after) b bs at (subst (λ z. IsChain d (at ∷ after) z) m c.1) c.0, apart_turned (b ∷ bs) (at ∷ after) (subst AreApart e o.apart), least_append at after (b ∷ bs) k h))

    go : Cut (o.first ∷ o.rest) → (ps : List ℕ) × IsCycle d ps
    go c = by_parts c.before c.at c.after c.is c.before_least c.after_least

cycle_found : (d : Design) → has_no_cycle d ≡ false → (ps : List ℕ) × IsCycle d ps
cycle_found d h =
    by_test (has_all (level_order d) 0 d.processes)
    (λ e. absurd (either_way (has_no_cycle d) (level_whole d e) h))
    (λ e. let s = stuck_one d e in
    turned d (search d (suc (length d.processes)) s.0 [] tt (refl, tt) (λ b c. subst (λ m. m < length d.processes) (sym (only b s.0 c)) (slice_get_within d.processes s.0 s.1.process s.1.is)) (omega arith) s.1))
  where
    only : (b p : ℕ) → ((b == p) || false) ≡ true → b ≡ p
    only b p c = by_test (b == p) (λ e. eqb-true b p e) (λ e. absurd (either_way ((b == p) || false) c (or_false (b == p) false e refl)))

-- ---- no cycle where there is an order

-- what feeds a member of a chain is one, or the chain begins with it
feeder_in : (d : Design) (p : ℕ) (ps : List ℕ) (last q : ℕ) → IsChain d (p ∷ ps) last → contains ps q ≡ true → (r : ℕ) × (contains (p ∷ ps) r ≡ true) × Feeds d r q
feeder_in d p [] last q h c = cc
feeder_in d p (n ∷ ps) last q h c =
    by_test (q == n)
    (λ e. (p, contains_head p (n ∷ ps), subst (λ m. Feeds d p m) (sym (eqb-true q n e)) h.0))
    (λ e. let r = feeder_in d n ps last q h.1 (subst (λ x. (x || contains ps q) ≡ true) e c) in (r.0, or_right (r.0 == p) (contains (n ∷ ps) r.0) r.1, r.2))

last_in : (d : Design) (p : ℕ) (ps : List ℕ) (last : ℕ) → IsChain d (p ∷ ps) last → (r : ℕ) × (contains (p ∷ ps) r ≡ true) × Feeds d r last
last_in d p [] last h = (p, contains_head p [], h)
last_in d p (n ∷ ps) last h = let r = last_in d n ps last h.1 in (r.0, or_right (r.0 == p) (contains (n ∷ ps) r.0) r.1, r.2)

member_fed : (d : Design) (p : ℕ) (ps : List ℕ) (q : ℕ) → IsChain d (p ∷ ps) p → contains (p ∷ ps) q ≡ true → (r : ℕ) × (contains (p ∷ ps) r ≡ true) × Feeds d r q
member_fed d p ps q h c =
    by_test (q == p)
    (λ e. let r = last_in d p ps p h in (r.0, r.1, subst (λ m. Feeds d r.0 m) (sym (eqb-true q p e)) r.2))
    (λ e. feeder_in d p ps p q h (subst (λ x. (x || contains ps q) ≡ true) e c))

no_cycle_in : (d : Design) (p : ℕ) (ps : List ℕ) → IsChain d (p ∷ ps) p → (order placed : List ℕ) → is_order_after placed d order ≡ true → ((q : ℕ) → contains (p ∷ ps) q ≡ true → contains placed q ≡ false) → ⊥
no_cycle_in d p ps c [] placed h k =
    let r = last_in d p ps p c in
    either_way (contains placed p) (all_at_end d placed p r.2.to h r.2.to_is r.2.to_settles) (k p (contains_head p ps))
no_cycle_in d p ps c (q ∷ order) placed h k = no_cycle_in d p ps c order (q ∷ placed) t.rest next
  where
    t : Turn d placed q order
    t = turn_of d placed q order h

    same_process : (x y : Process) → Some x ≡ Some y → x ≡ y
    same_process x y e = cc

    outside : contains (p ∷ ps) q ≡ true → ⊥
    outside m =
        let r = member_fed d p ps q c m in
        let s : r.2.to ≡ t.process = same_process r.2.to t.process (sym r.2.to_is ∙ t.is) in
        let b = any_bit (contains (needs r.2.to)) (writes_of r.2.from) r.2.fed in
        either_way (contains placed r.0) (t.ready r.0 r.2.from b.0 r.2.from_is r.2.from_settles b.1 (subst (λ x. contains (needs x) b.0 ≡ true) s b.2)) (k r.0 r.1)

    next : (n : ℕ) → contains (p ∷ ps) n ≡ true → contains (q ∷ placed) n ≡ false
    next n m = or_false (n == q) (contains placed n) (by_test (n == q) (λ e. absurd (outside (subst (λ z. contains (p ∷ ps) z ≡ true) (eqb-true n q e) m))) (λ e. e)) (k n m)

order_has_none : (d : Design) (order : List ℕ) → is_level_order d order ≡ true → (ps : List ℕ) → IsCycle d ps → ⊥
order_has_none d order h [] c = c
order_has_none d order h (p ∷ ps) c = no_cycle_in d p ps c.0 order [] h (λ q m. refl)

pub order_or_cycle : OrderOrCycle
order_or_cycle d = record { found = cycle_found d; none = order_has_none d }
