-- The bits that a clocked block reads and another one stirs, and the refusal.
use Rattle.std.proofs.Common.{◌≡◌, ◌≢◌, ℕ, zero, suc, ◌+◌, ◌<◌, ◌≤◌, Bool, true, false, List, [], ◌∷◌, ◌||◌, ◌&&◌, ◌==◌, if◌then◌else◌, refl, sym, ap, ◌∙◌, subst, eqb-true, eq-eqb, length, nat_lt, arith, Option, Some, None}
use Rattle.std.specs.Prelude.{slice_get, filter, option_map}
use Rattle.std.proofs.lemmas.Bool.{ltb-true, ltb-false}
use Rattle.vs_design.specs.Designs.{Process, is_clocked, process_place, Design}
use Rattle.vs_design.specs.Footprints.{contains, reads_of}
use Rattle.vs_design.specs.Levels.{level_order, is_level_order}
use Rattle.vs_design.specs.Laws.{RaceByAnyOrder}
use Rattle.vs_design.specs.Races.{stirred, raced_from, race_bits}
use Rattle.vs_design.specs.Refusals.{least, otherwise, first_found, RaceRefusal, Race, race_refusal_of, race_refusal}
use Rattle.vs_design.specs.RefusalLaws.{RaceRefusalIs, IsRaceRefusal}
use Rattle.vs_reads.specs.Laws.{HasBitsOf}
use Rattle.vs_race.specs.declared.stirrer.Stirrer.{Stirrer}
use Rattle.vs_race.specs.Stirrers.{has_other, stirrer_at, AreTold, stirs_bit, IsFirstStirred}
use Rattle.vs_race.specs.Refused.{IsFirstRaced}
use Rattle.vs_shape.proofs.Among.{rises_to}
use Rattle.vs_reads.proofs.Tests.{by_test, either_way, same_test, or_left, or_right, and_both, and_true, contains-append, contains_head, place_of, member_at}
use Rattle.vs_reads.proofs.Numbered.{number_at, at_is}
use Rattle.vs_race.proofs.Telling.{other_found, other_has}

same_some : {A : Type 0} (x y : A) → Some x ≡ Some y → x ≡ y
same_some x y e = cc

filtered : (t : ℕ → Bool) (xs : List ℕ) (b : ℕ) → contains (filter t xs) b ≡ true → (contains xs b ≡ true) × (t b ≡ true)
filtered t [] b h = cc
filtered t (x ∷ xs) b h = go (t x) refl h (filtered t xs b)
  where
    go : (u : Bool) → t x ≡ u → contains (if u then x ∷ filter t xs else filter t xs) b ≡ true → (contains (filter t xs) b ≡ true → (contains xs b ≡ true) × (t b ≡ true)) → (contains (x ∷ xs) b ≡ true) × (t b ≡ true)
    go true e k rest =
        by_test (b == x)
        (λ s. (or_left (b == x) (contains xs b) s, subst (λ n. t n ≡ true) (sym (eqb-true b x s)) e))
        (λ s. let r = rest (subst (λ u. (u || contains (filter t xs) b) ≡ true) s k) in (or_right (b == x) (contains xs b) r.0, r.1))
    go false e k rest = let r = rest k in (or_right (b == x) (contains xs b) r.0, r.1)

filter_has : (t : ℕ → Bool) (xs : List ℕ) (b : ℕ) → contains xs b ≡ true → t b ≡ true → contains (filter t xs) b ≡ true
filter_has t [] b h k = cc
filter_has t (x ∷ xs) b h k = by_test (t x)
    (λ e. subst (λ (u : Bool). contains (if u then x ∷ filter t xs else filter t xs) b ≡ true) (sym e)
    (by_test (b == x) (λ s. or_left (b == x) (contains (filter t xs) b) s) (λ s. or_right (b == x) (contains (filter t xs) b) (filter_has t xs b (subst (λ u. (u || contains xs b) ≡ true) s h) k))))
    (λ e. subst (λ (u : Bool). contains (if u then x ∷ filter t xs else filter t xs) b ≡ true) (sym e)
    (filter_has t xs b (by_test (b == x) (λ s. either_way (t b) k (subst (λ n. t n ≡ false) (sym (eqb-true b x s)) e)) (λ s. subst (λ u. (u || contains xs b) ≡ true) s h)) k))

-- another process of the list, numbered from k on, stirs the bit
record Another (d : Design) (order : List ℕ) (p k : ℕ) (ps : List Process) (b : ℕ) : Type 0 where
  number : ℕ
  process : Process
  is : slice_get ps number ≡ Some process
  other : k + number ≢ p
  stirs : contains (stirred d order process) b ≡ true

raced_found : (d : Design) (order bits : List ℕ) (p k : ℕ) (ps : List Process) (b : ℕ) → contains (raced_from d order bits p k ps) b ≡ true → (contains bits b ≡ true) × Another d order p k ps b
raced_found d order bits p k [] b h = cc
raced_found d order bits p k (y ∷ ps) b h = by_test (contains (if k == p then [] else filter (contains (stirred d order y)) bits) b) here (later (raced_found d order bits p (suc k) ps b))
  where
    here : contains (if k == p then [] else filter (contains (stirred d order y)) bits) b ≡ true → (contains bits b ≡ true) × Another d order p k (y ∷ ps) b
    here e = by_test (k == p)
        (λ s. absurd (let z = subst (λ (u : Bool). contains (if u then [] else filter (contains (stirred d order y)) bits) b ≡ true) s e in cc))
        (λ s.
        let f = filtered (contains (stirred d order y)) bits b (subst (λ (u : Bool). contains (if u then [] else filter (contains (stirred d order y)) bits) b ≡ true) s e) in
        (f.0, record { number = 0; process = y; is = refl; other = λ i. either_way (k == p) (eq-eqb k p (omega (arith, i))) s; stirs = f.1 }))

    later : (contains (raced_from d order bits p (suc k) ps) b ≡ true → (contains bits b ≡ true) × Another d order p (suc k) ps b) → contains (if k == p then [] else filter (contains (stirred d order y)) bits) b ≡ false
        → (contains bits b ≡ true) × Another d order p k (y ∷ ps) b
    later found e =
        let rest = ap {B = Bool} (λ t. t || contains (raced_from d order bits p (suc k) ps) b) (sym e) ∙ sym (contains-append (if k == p then [] else filter (contains (stirred d order y)) bits) (raced_from d order bits p (suc k) ps) b) ∙ h in
        let r = found rest in
        (r.0, record { number = suc r.1.number; process = r.1.process; is = r.1.is; other = λ i. r.1.other (omega (arith, i)); stirs = r.1.stirs })

raced_has : (d : Design) (order bits : List ℕ) (p k : ℕ) (ps : List Process) (b q : ℕ) (x : Process) → contains bits b ≡ true → slice_get ps q ≡ Some x → k + q ≢ p → contains (stirred d order x) b ≡ true → contains (raced_from d order bits p k ps) b ≡ true
raced_has d order bits p k [] b q x c i ne s = cc
raced_has d order bits p k (y ∷ ps) b zero x c i ne s =
    let front : contains (if k == p then [] else filter (contains (stirred d order y)) bits) b ≡ true =
    by_test (k == p)
    (λ e. absurd (ne (let z = eqb-true k p e in omega (arith, z))))
    (λ e. subst (λ (u : Bool). contains (if u then [] else filter (contains (stirred d order y)) bits) b ≡ true) (sym e) (filter_has (contains (stirred d order y)) bits b c (subst (λ z. contains (stirred d order z) b ≡ true) (sym (same_some y x i)) s)))
    in
    contains-append (if k == p then [] else filter (contains (stirred d order y)) bits) (raced_from d order bits p (suc k) ps) b
    ∙ or_left (contains (if k == p then [] else filter (contains (stirred d order y)) bits) b) (contains (raced_from d order bits p (suc k) ps) b) front
raced_has d order bits p k (y ∷ ps) b (suc q) x c i ne s =
    contains-append (if k == p then [] else filter (contains (stirred d order y)) bits) (raced_from d order bits p (suc k) ps) b
    ∙ or_right (contains (if k == p then [] else filter (contains (stirred d order y)) bits) b) (contains (raced_from d order bits p (suc k) ps) b) (raced_has d order bits p (suc k) ps b q x c i (λ e. ne (omega (arith, e))) s)

-- ---- by the table

module _ (d : Design) (order : List ℕ) (table : List Stirrer) (told : AreTold table (stirs_bit d order)) (p : ℕ) (x : Process) (clocked : is_clocked x ≡ true) where
  bits_are : race_bits d order p x ≡ raced_from d order (reads_of x) p 0 d.processes
  bits_are = ap (λ (t : Bool). if t then raced_from d order (reads_of x) p 0 d.processes else []) clocked

  raced_is : (b : ℕ) → b < length table → contains (race_bits d order p x) b ≡ (contains (reads_of x) b && has_other (stirrer_at table b) p)
  raced_is b l = ap {B = Bool} (λ bs. contains bs b) bits_are ∙ same_test (contains (raced_from d order (reads_of x) p 0 d.processes) b) (contains (reads_of x) b && has_other (stirrer_at table b) p) to from
    where
      to : contains (raced_from d order (reads_of x) p 0 d.processes) b ≡ true → (contains (reads_of x) b && has_other (stirrer_at table b) p) ≡ true
      to h =
          let r = raced_found d order (reads_of x) p 0 d.processes b h in
          and_true (contains (reads_of x) b) (has_other (stirrer_at table b) p) r.0
          (other_has (stirrer_at table b) (stirs_bit d order b) p (told b l)
          (r.1.number, λ i. r.1.other (omega (arith, i)), number_at r.1.number d.processes r.1.process (λ y. contains (stirred d order y) b) r.1.is ∙ r.1.stirs))

      from : (contains (reads_of x) b && has_other (stirrer_at table b) p) ≡ true → contains (raced_from d order (reads_of x) p 0 d.processes) b ≡ true
      from h =
          let m = and_both (contains (reads_of x) b) (has_other (stirrer_at table b) p) h in
          let o = other_found (stirrer_at table b) (stirs_bit d order b) p (told b l) m.1 in
          let y = at_is o.0 d.processes (λ y. contains (stirred d order y) b) o.2 in
          raced_has d order (reads_of x) p 0 d.processes b o.0 y.0 m.0 y.1 (λ e. o.1 (omega (arith, e))) y.2

  -- of the bits that it reads, in ascending order, the first
  module _ (count : ℕ) (bits : List ℕ) (own : HasBitsOf count bits (reads_of x)) (whole : length table ≡ count) where
    below : (b : ℕ) → contains (reads_of x) b ≡ true → b < length table
    below b h = subst (λ n. b < n) (sym whole) (own.below b (own.same b ∙ h))

    member : (b : ℕ) → contains (race_bits d order p x) b ≡ true → (contains bits b ≡ true) × (has_other (stirrer_at table b) p ≡ true)
    member b h =
        let read = (raced_found d order (reads_of x) p 0 d.processes b (ap {B = Bool} (λ bs. contains bs b) (sym bits_are) ∙ h)).0 in
        (own.same b ∙ read, (and_both (contains (reads_of x) b) (has_other (stirrer_at table b) p) (sym (raced_is b (below b read)) ∙ h)).1)

    nothing : (xs : List ℕ) → ((b : ℕ) → contains xs b ≡ true → ⊥) → xs ≡ []
    nothing [] h = refl
    nothing (y ∷ ys) h = absurd (h y (contains_head y ys))

    pub first_is : (result : Option ℕ) → IsFirstStirred table bits p result → IsFirstRaced d order p x result
    first_is None h = nothing (race_bits d order p x) (λ b k.
        let m = member b k in
        let at = place_of bits b m.0 in
        either_way (has_other (stirrer_at table b) p) m.1 (subst (λ n. has_other (stirrer_at table n) p ≡ false) at.2 (h at.0 at.1)))
    first_is (Some bit) h =
        let read : contains (reads_of x) bit ≡ true = sym (own.same bit) ∙ subst (λ n. contains bits n ≡ true) h.2 (member_at bits h.0 h.1) in
        (raced_is bit (below bit read) ∙ and_true (contains (reads_of x) bit) (has_other (stirrer_at table bit) p) read h.3, earlier)
      where
        earlier : (b : ℕ) → b < bit → contains (race_bits d order p x) b ≡ false
        earlier b l = by_test (contains (race_bits d order p x) b) (λ k. absurd (no (member b k))) (λ k. k)
          where
            no : (contains bits b ≡ true) × (has_other (stirrer_at table b) p ≡ true) → ⊥
            no m =
                let at = place_of bits b m.0 in
                by_test (nat_lt at.0 h.0)
                (λ e. either_way (has_other (stirrer_at table b) p) m.1 (subst (λ n. has_other (stirrer_at table n) p ≡ false) at.2 (h.4 at.0 (ltb-true at.0 h.0 e))))
                (λ e. let r = rises_to bits own.rising h.0 at.0 (ltb-false at.0 h.0 e) at.1 in let u = at.2 in let v = h.2 in omega (arith, r, u, v, l))

-- a process that is no clocked block has no race
pub none_raced : (d : Design) (order : List ℕ) (p : ℕ) (x : Process) → is_clocked x ≡ false → race_bits d order p x ≡ []
none_raced d order p x h = ap (λ (t : Bool). if t then raced_from d order (reads_of x) p 0 d.processes else []) h

-- one process more has none
pub more_free : (d : Design) (order : List ℕ) (p : ℕ) (found : Option ℕ) → found ≡ None → ((x : Process) → slice_get d.processes p ≡ Some x → IsFirstRaced d order p x found)
    → ((q : ℕ) (x : Process) → q < p → slice_get d.processes q ≡ Some x → race_bits d order q x ≡ []) → (q : ℕ) (x : Process) → q < p + 1 → slice_get d.processes q ≡ Some x → race_bits d order q x ≡ []
more_free d order p found e here before q x l i = by_test (nat_lt q p)
    (λ t. before q x (ltb-true q p t) i)
    (λ t.
    let same : p ≡ q = (let u = ltb-false q p t in omega (arith, u, l)) in
    subst (λ n. slice_get d.processes n ≡ Some x → race_bits d order n x ≡ []) same (λ k. subst (IsFirstRaced d order p x) e (here x k)) i)

-- ---- the refusal

no_member : (xs : List ℕ) (b : ℕ) → xs ≡ [] → contains xs b ≡ true → ⊥
no_member [] b e h = cc
no_member (x ∷ xs) b e h = cc

module _ (is : RaceRefusalIs) (any : RaceByAnyOrder) (d : Design) (order : List ℕ) (level : is_level_order d order ≡ true) where
  pub free : ((q : ℕ) (x : Process) → slice_get d.processes q ≡ Some x → race_bits d order q x ≡ []) → race_refusal d ≡ None
  free h = go (race_refusal d) refl
    where
      refuses : (r : RaceRefusal) → IsRaceRefusal d r → ⊥
      refuses (Race p b at) f = no_member (race_bits d (level_order d) p f.0) b (sym (any d order level p f.0) ∙ h p f.0 f.1) f.2.there

      go : (o : Option RaceRefusal) → race_refusal d ≡ o → race_refusal d ≡ None
      go None e = e
      go (Some r) e = absurd (refuses r (is d r e))

  none_first : {A : Type 0} (find : ℕ → Process → Option A) (k : ℕ) (ps : List Process) (p : ℕ) (x : Process) → first_found find k ps ≡ None → slice_get ps p ≡ Some x → find (k + p) x ≡ None
  none_first find k [] p x h e = cc
  none_first {A} find k (y ∷ ps) zero x h e = subst (λ n. find n x ≡ None) (omega arith) (subst (λ z. find k z ≡ None) (same_some y x e) (front (find k y) h))
    where
      front : (o : Option A) → otherwise o (first_found find (suc k) ps) ≡ None → o ≡ None
      front None h = refl
      front (Some a) h = cc
  none_first {A} find k (y ∷ ps) (suc p) x h e = subst (λ n. find n x ≡ None) (omega arith) (none_first find (suc k) ps p x (rest (find k y) h) e)
    where
      rest : (o : Option A) → otherwise o (first_found find (suc k) ps) ≡ None → first_found find (suc k) ps ≡ None
      rest None h = h
      rest (Some a) h = cc

  no_bits : (xs : List ℕ) (p at : ℕ) → option_map (λ b. Race p b at) (least xs) ≡ None → xs ≡ []
  no_bits [] p at h = refl
  no_bits (x ∷ xs) p at h = cc

  pub raced : (p : ℕ) (x : Process) (bit at : ℕ) → slice_get d.processes p ≡ Some x → IsFirstRaced d order p x (Some bit) → ((q : ℕ) (y : Process) → q < p → slice_get d.processes q ≡ Some y → race_bits d order q y ≡ []) → at ≡ process_place x
      → race_refusal d ≡ Some (Race p bit at)
  raced p x bit at i first before place = go (race_refusal d) refl
    where
      same : (q : ℕ) (y : Process) → race_bits d order q y ≡ race_bits d (level_order d) q y
      same q y = any d order level q y

      one : (y : Process) → slice_get d.processes p ≡ Some y → y ≡ x
      one y e = same_some y x (sym e ∙ i)

      told : (r : RaceRefusal) → IsRaceRefusal d r → Some r ≡ Some (Race p bit at)
      told (Race q b w) f = by_test (nat_lt q p)
          (λ e. absurd (no_member (race_bits d (level_order d) q f.0) b (sym (same q f.0) ∙ before q f.0 (ltb-true q p e) f.1) f.2.there))
          (λ e. by_test (nat_lt p q)
          (λ g. absurd (no_member (race_bits d order p x) bit (same p x ∙ f.4 p x (ltb-true p q g) i) first.0))
          (λ g.
          let number : q ≡ p = (let u = ltb-false q p e in let v = ltb-false p q g in omega (arith, u, v)) in
          let process : f.0 ≡ x = one f.0 (subst (λ n. slice_get d.processes n ≡ Some f.0) number f.1) in
          let there : contains (race_bits d order p x) b ≡ true = subst (λ n. contains (race_bits d order n x) b ≡ true) number (subst (λ y. contains (race_bits d order q y) b ≡ true) process (ap {B = Bool} (λ bs. contains bs b) (same q f.0) ∙ f.2.there)) in
          let here : contains (race_bits d (level_order d) q f.0) bit ≡ true = subst (λ y. contains (race_bits d (level_order d) q y) bit ≡ true) (sym process) (subst (λ n. contains (race_bits d (level_order d) n x) bit ≡ true) (sym number) (ap {B = Bool} (λ bs. contains bs bit) (sym (same p x)) ∙ first.0)) in
          let low : b ≤ bit = f.2.least bit here in
          let high : bit ≤ b = by_test (nat_lt b bit) (λ t. either_way (contains (race_bits d order p x) b) there (first.1 b (ltb-true b bit t))) (λ t. ltb-false b bit t) in
          let bits : b ≡ bit = omega (arith, low, high) in
          let places : w ≡ at = f.3 ∙ ap process_place process ∙ sym place in
          cc))

      go : (o : Option RaceRefusal) → race_refusal d ≡ o → race_refusal d ≡ Some (Race p bit at)
      go (Some r) e = e ∙ told r (is d r e)
      go None e =
          let f : race_refusal_of d (level_order d) (0 + p) x ≡ None = none_first (race_refusal_of d (level_order d)) 0 d.processes p x e i in
          let g : race_refusal_of d (level_order d) p x ≡ None = subst (λ n. race_refusal_of d (level_order d) n x ≡ None) (omega arith) f in
          absurd (no_member (race_bits d order p x) bit (same p x ∙ no_bits (race_bits d (level_order d) p x) p (process_place x) g) first.0)
