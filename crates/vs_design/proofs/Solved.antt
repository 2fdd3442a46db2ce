-- The sets at time zero, found along any level order, are the only solution of their equations.
use Rattle.std.proofs.Common.{◌≡◌, ℕ, zero, suc, Bool, true, false, List, [], ◌∷◌, ◌++◌, ◌||◌, ◌&&◌, ◌==◌, not, if◌then◌else◌, ◌⊎◌, inl, inr, refl, sym, ap, ◌∙◌, subst, eqb-true, Some}
use Rattle.std.specs.Prelude.{slice_get}
use Rattle.vs_four.specs.declared.Bit4.TheVariants.{X}
use Rattle.vs_design.specs.Expressions.{Expression}
use Rattle.vs_design.specs.Statements.{Target, Statement}
use Rattle.vs_design.specs.Designs.{Port, Process, Continuous, Always, is_clocked, Design}
use Rattle.vs_design.specs.Footprints.{contains, read_bits, target_bits, target_reads, statement_bits, statement_reads, writes_of, reads_of, waits_of, without, is_net}
use Rattle.vs_design.specs.Latches.{latch_bits}
use Rattle.vs_design.specs.Rules.{mixed_in, mixed_assigns, latches}
use Rattle.vs_design.specs.Levels.{needs, is_order_after, is_level_order}
use Rattle.vs_design.specs.Sets.{Set4, only, any_value, union}
use Rattle.vs_design.specs.Lifted.{Family}
use Rattle.vs_design.specs.LiftedBodies.{assign_sets}
use Rattle.vs_design.specs.TimeZero.{Families, families, families_along, early_source, late_source, early_end, late_end, block_sets, is_quiet}
use Rattle.vs_design.specs.Elaborated.{IsLawfulDesign, has_constant_selects, is_formed, is_formed_target, is_formed_port, is_formed_process}
use Rattle.vs_design.specs.Selects.{is_lenient, meant, is_lenient_block}
use Rattle.vs_design.specs.Accepted.{is_empty}
use Rattle.vs_design.specs.Equations.{IsBlock, sleeps, IsSource, IsOrderly, IsSolved}
use Rattle.vs_design.specs.TreeLaws.{SameSets}
use Rattle.vs_design.specs.Laws.{OneFamilies}
use Rattle.vs_design.proofs.Lists.{by_test, and_both, contains-left, contains-right}
use Rattle.vs_design.proofs.Writes.{either_way}
use Rattle.vs_design.proofs.Drivers.{empty_is}
use Rattle.vs_design.proofs.Order.{Turn, turn_of, all_at_end}
use Rattle.vs_design.proofs.Parts.{all_at}
use Rattle.vs_design.proofs.Along.{SameAt, Found, found, unwritten, constant_assigns}
use Rattle.vs_design.proofs.SetReadsBody.{assign_same, block_same, quiet_same}
use Rattle.vs_design.proofs.Meant.{meant_plain, meant_unmixed, meant_bits, meant_needs}

-- ---- what a process's own bits have depends on what it needs

assign_facts : (d : Design) → IsLawfulDesign d → (p place : ℕ) (port : Port) (target_place : ℕ) (target : Target) (e : Expression) → slice_get d.processes p ≡ Some (Continuous place port target_place target e) → has_constant_selects target ≡ true
assign_facts d l p place port target_place target e h =
    let a = all_at (is_formed_process d) d.processes p (Continuous place port target_place target e) l.formed h in
    let k = and_both (is_formed_target d is_net target && has_constant_selects target && is_formed d e) (is_formed_port port target e) a in
    (and_both (is_formed_target d is_net target) (has_constant_selects target) (and_both (is_formed_target d is_net target && has_constant_selects target) (is_formed d e) k.0).0).1

assign_settled : (target : Target) (e : Expression) (f g : Family) (b : ℕ) → has_constant_selects target ≡ true → SameSets (read_bits e) f g → contains (target_bits target) b ≡ true → assign_sets target e f b ≡ assign_sets target e g b
assign_settled target e f g b c k w = assign_same target e f g b k (inr (subst (λ xs. contains xs b ≡ true) (sym (constant_assigns target c)) w))

-- of the statement that the rules take a block to have
record Clean (d : Design) (st : Statement) : Type 0 where
  pub unmixed : mixed_in false (meant d st) ≡ []
  pub no_latch : latch_bits (meant d st) ≡ []

block_facts : (d : Design) → IsOrderly d → (p : ℕ) (st : Statement) → IsBlock d p st → Clean d st
block_facts d o p st i = record {
  unmixed = meant_unmixed d st (subst (λ (c : Bool). (if c then [] else mixed_in false st) ≡ []) i.combinational (empty_is (mixed_assigns (Always i.place i.star i.events st)) (all_at (λ p. is_empty (mixed_assigns p)) d.processes p (Always i.place i.star i.events st) o.unmixed i.is)));
  no_latch = subst (λ (c : Bool). (if not c then latch_bits (meant d st) else []) ≡ []) i.combinational (empty_is (latches d (Always i.place i.star i.events st)) (all_at (λ p. is_empty (latches d p)) d.processes p (Always i.place i.star i.events st) o.no_latch i.is));
}

-- one that isn't lenient is taken as it stands
plain_facts : (d : Design) → IsOrderly d → (p : ℕ) (st : Statement) → IsBlock d p st → is_lenient st ≡ false → (mixed_in false st ≡ []) × (latch_bits st ≡ [])
plain_facts d o p st i e =
    let c = block_facts d o p st i in
    (subst (λ (x : Statement). mixed_in false x ≡ []) (meant_plain d st e) c.unmixed, subst (λ (x : Statement). latch_bits x ≡ []) (meant_plain d st e) c.no_latch)

-- what a block reads and doesn't write it needs
block_needs : (d : Design) (p : ℕ) (st : Statement) (i : IsBlock d p st) (b : ℕ) → contains (without (statement_reads st) (statement_bits st)) b ≡ true → contains (needs (Always i.place i.star i.events st)) b ≡ true
block_needs d p st i b h = contains-left (reads_of (Always i.place i.star i.events st)) (waits_of (Always i.place i.star i.events st)) b (subst (λ (c : Bool). contains (if not c then without (statement_reads st) (statement_bits st) else statement_reads st) b ≡ true) (sym i.combinational) h)

-- ---- the families along an order are a solution

pub solved : (d : Design) → IsOrderly d → (clocks order : List ℕ) → is_level_order d order ≡ true → IsSolved d clocks (families d clocks order)
solved d o clocks order h = record {
  source = λ b s. unwritten d order first b h s;
  assign = λ p place port target_place target e i b w.
      let x = Continuous place port target_place target e in
      let g = found d order [] first p x o.one_driver h i refl refl in
      let c = assign_facts d o.lawful p place port target_place target e i in
      let q = g.own b w in (
        q.0 ∙ assign_settled target e g.then_.early sets.early b c (λ k r. sym (g.same k (needed target e k r)).0) w,
        q.1 ∙ assign_settled target e g.then_.late sets.late b c (λ k r. sym (g.same k (needed target e k r)).1) w,
      );
  block = λ p st i n b w.
      let c = block_facts d o p st i in
      let g = at p st i in
      let own = meant_bits d st b ∙ w in
      (g.own b w).1 ∙ own_late (sleeps d p st i) (meant d st) g.then_.late b n own ∙ block_same (meant d st) g.then_.late sets.late b c.unmixed c.no_latch (λ k r. sym (g.same k (block_needs d p st i k (meant_needs d st k r))).1) own;
  lenient = λ p st i n e b w.
      let g = at p st i in
      (g.own b w).0 ∙ any_early (sleeps d p st i) (is_lenient_block (Always i.place i.star i.events st)) (meant d st) g.then_.early b n (lenient_is p st i ∙ e) (meant_bits d st b ∙ w);
  quiet = λ p st i n e q b w.
      let c = plain_facts d o p st i e in
      let g = at p st i in
      let k : SameSets (without (statement_reads st) (statement_bits st)) g.then_.early sets.early = λ k r. sym (g.same k (block_needs d p st i k r)).0 in
      (g.own b w).0 ∙ as_plain p st i e g.then_.early b ∙ own_early (sleeps d p st i) (is_lenient_block (Always i.place i.star i.events st)) st g.then_.early b n (lenient_is p st i ∙ e) w ∙ quiet_end st g.then_.early (block_sets st g.then_.early b) (quiet_same st g.then_.early sets.early c.0 c.1 k ∙ q) ∙ block_same st g.then_.early sets.early b c.0 c.1 k w;
  stirred = λ p st i n e q b w.
      let c = plain_facts d o p st i e in
      let g = at p st i in
      let k : SameSets (without (statement_reads st) (statement_bits st)) g.then_.early sets.early = λ k r. sym (g.same k (block_needs d p st i k r)).0 in
      (g.own b w).0 ∙ as_plain p st i e g.then_.early b ∙ own_early (sleeps d p st i) (is_lenient_block (Always i.place i.star i.events st)) st g.then_.early b n (lenient_is p st i ∙ e) w ∙ stirred_end st g.then_.early (block_sets st g.then_.early b) (quiet_same st g.then_.early sets.early c.0 c.1 k ∙ q) ∙ ap {B = Set4} (union (only X)) (block_same st g.then_.early sets.early b c.0 c.1 k w);
  asleep = λ p st i n b w.
      let c = block_facts d o p st i in
      let own = meant_bits d st b ∙ w in
      let g = at p st i in (
        (g.own b w).0 ∙ asleep_early (sleeps d p st i) (is_lenient_block (Always i.place i.star i.events st)) (meant d st) g.then_.early b n own,
        (g.own b w).1 ∙ asleep_late (sleeps d p st i) (meant d st) g.then_.late b n own ∙ ap {B = Set4} (union (only X)) (block_same (meant d st) g.then_.late sets.late b c.unmixed c.no_latch (λ k r. sym (g.same k (block_needs d p st i k (meant_needs d st k r))).1) own),
      );
}
  where
    first : Families
    first = record { early = early_source d; late = late_source d clocks }

    sets : Families
    sets = families_along d order first

    needed : (target : Target) (e : Expression) (k : ℕ) → contains (read_bits e) k ≡ true → contains ((target_reads target ++ read_bits e) ++ []) k ≡ true
    needed target e k r = contains-left (target_reads target ++ read_bits e) [] k (contains-right (target_reads target) (read_bits e) k r)

    at : (p : ℕ) (st : Statement) (i : IsBlock d p st) → Found d sets (Always i.place i.star i.events st)
    at p st i = found d order [] first p (Always i.place i.star i.events st) o.one_driver h i.is i.combinational refl

    own_late : (asleep : Bool) (st : Statement) (f : Family) (b : ℕ) → asleep ≡ false → contains (statement_bits st) b ≡ true → late_end (contains (statement_bits st) b) asleep (block_sets st f b) (f b) ≡ block_sets st f b
    own_late asleep st f b n w = rw (n, w) refl

    own_early : (asleep lenient : Bool) (st : Statement) (f : Family) (b : ℕ) → asleep ≡ false → lenient ≡ false → contains (statement_bits st) b ≡ true
        → early_end (contains (statement_bits st) b) asleep lenient (is_quiet st f) (block_sets st f b) (f b) ≡ (if is_quiet st f then block_sets st f b else union (only X) (block_sets st f b))
    own_early asleep lenient st f b n l w = rw (n, l, w) refl

    any_early : (asleep lenient : Bool) (st : Statement) (f : Family) (b : ℕ) → asleep ≡ false → lenient ≡ true → contains (statement_bits st) b ≡ true → early_end (contains (statement_bits st) b) asleep lenient (is_quiet st f) (block_sets st f b) (f b) ≡ any_value
    any_early asleep lenient st f b n l w = rw (n, l, w) refl

    -- of a combinational block
    lenient_is : (p : ℕ) (st : Statement) (i : IsBlock d p st) → is_lenient_block (Always i.place i.star i.events st) ≡ is_lenient st
    lenient_is p st i = ap (λ c. not c && is_lenient st) i.combinational

    as_plain : (p : ℕ) (st : Statement) (i : IsBlock d p st) → is_lenient st ≡ false → (f : Family) (b : ℕ)
        → early_end (contains (statement_bits (meant d st)) b) (sleeps d p st i) (is_lenient_block (Always i.place i.star i.events st)) (is_quiet (meant d st) f) (block_sets (meant d st) f b) (f b)
        ≡ early_end (contains (statement_bits st) b) (sleeps d p st i) (is_lenient_block (Always i.place i.star i.events st)) (is_quiet st f) (block_sets st f b) (f b)
    as_plain p st i e f b = ap {B = Set4} (λ (x : Statement). early_end (contains (statement_bits x) b) (sleeps d p st i) (is_lenient_block (Always i.place i.star i.events st)) (is_quiet x f) (block_sets x f b) (f b)) (meant_plain d st e)

    asleep_late : (asleep : Bool) (st : Statement) (f : Family) (b : ℕ) → asleep ≡ true → contains (statement_bits st) b ≡ true → late_end (contains (statement_bits st) b) asleep (block_sets st f b) (f b) ≡ union (only X) (block_sets st f b)
    asleep_late asleep st f b n w = rw (n, w) refl

    asleep_early : (asleep lenient : Bool) (st : Statement) (f : Family) (b : ℕ) → asleep ≡ true → contains (statement_bits st) b ≡ true → early_end (contains (statement_bits st) b) asleep lenient (is_quiet st f) (block_sets st f b) (f b) ≡ only X
    asleep_early asleep lenient st f b n w = rw (n, w) refl

    quiet_end : (st : Statement) (f : Family) (s : Set4) → is_quiet st f ≡ true → (if is_quiet st f then s else union (only X) s) ≡ s
    quiet_end st f s q = rw q refl

    stirred_end : (st : Statement) (f : Family) (s : Set4) → is_quiet st f ≡ false → (if is_quiet st f then s else union (only X) s) ≡ union (only X) s
    stirred_end st f s q = rw q refl

-- ---- and no other pair is one

-- the assign or combinational block of the list that writes a bit
pub record Settling (ps : List Process) (b : ℕ) : Type 0 where
  pub number : ℕ
  pub process : Process
  pub is : slice_get ps number ≡ Some process
  pub settles : is_clocked process ≡ false
  pub writes_it : contains (writes_of process) b ≡ true

abbrev None_settling : List Process → ℕ → Type 0
None_settling ps b = (p : ℕ) (process : Process) → slice_get ps p ≡ Some process → is_clocked process ≡ false → contains (writes_of process) b ≡ false

pub writer_or_none : (ps : List Process) (b : ℕ) → Settling ps b ⊎ None_settling ps b
writer_or_none [] b = inr (λ p x e c. cc)
writer_or_none (y ∷ ps) b =
    by_test (is_clocked y)
    (λ c. later (λ e. absurd (either_way (is_clocked y) c e)) (writer_or_none ps b))
    (λ c.
    by_test (contains (writes_of y) b)
    (λ w. inl (record { number = 0; process = y; is = refl; settles = c; writes_it = w }))
    (λ w. later (λ e. w) (writer_or_none ps b)))
  where
    some_is : (x : Process) → Some y ≡ Some x → y ≡ x
    some_is x e = cc

    later : (is_clocked y ≡ false → contains (writes_of y) b ≡ false) → Settling ps b ⊎ None_settling ps b → Settling (y ∷ ps) b ⊎ None_settling (y ∷ ps) b
    later f (inl s) = inl (record { number = suc s.number; process = s.process; is = s.is; settles = s.settles; writes_it = s.writes_it })
    later f (inr n) = inr go
      where
        go : (p : ℕ) (x : Process) → slice_get (y ∷ ps) p ≡ Some x → is_clocked x ≡ false → contains (writes_of x) b ≡ false
        go zero x e c = subst (λ z. contains (writes_of z) b ≡ false) (some_is x e) (f (subst (λ z. is_clocked z ≡ false) (sym (some_is x e)) c))
        go (suc p) x e c = n p x e c

module _ (d : Design) (o : IsOrderly d) (clocks : List ℕ) (f g : Families) (i : IsSolved d clocks f) (j : IsSolved d clocks g) where
  source_same : (b : ℕ) → IsSource d b → SameAt f g b
  source_same b s = let u = i.source b s in let v = j.source b s in (u.0 ∙ sym v.0, u.1 ∙ sym v.1)

  own_same : (p : ℕ) (x : Process) → slice_get d.processes p ≡ Some x → is_clocked x ≡ false → ((b : ℕ) → contains (needs x) b ≡ true → SameAt f g b) → (b : ℕ) → contains (writes_of x) b ≡ true → SameAt f g b
  own_same p (Continuous place port target_place target e) h c k b w =
      let u = i.assign p place port target_place target e h b w in
      let v = j.assign p place port target_place target e h b w in
      let q = assign_facts d o.lawful p place port target_place target e h in (
        u.0 ∙ assign_settled target e f.early g.early b q (λ m r. (k m (needed m r)).0) w ∙ sym v.0,
        u.1 ∙ assign_settled target e f.late g.late b q (λ m r. (k m (needed m r)).1) w ∙ sym v.1,
      )
    where
      needed : (m : ℕ) → contains (read_bits e) m ≡ true → contains ((target_reads target ++ read_bits e) ++ []) m ≡ true
      needed m r = contains-left (target_reads target ++ read_bits e) [] m (contains-right (target_reads target) (read_bits e) m r)
  own_same p (Always place star events st) h c k b w =
      by_test (sleeps d p st block)
      (λ n. ((i.asleep p st block n b w).0 ∙ sym (j.asleep p st block n b w).0, (i.asleep p st block n b w).1 ∙ ap {B = Set4} (union (only X)) late ∙ sym (j.asleep p st block n b w).1))
      (λ n. (early n, i.block p st block n b w ∙ late ∙ sym (j.block p st block n b w)))
    where
      block : IsBlock d p st
      block = record { place = place; star = star; events = events; is = h; combinational = c }

      clean : Clean d st
      clean = block_facts d o p st block

      same : SameSets (without (statement_reads st) (statement_bits st)) f.early g.early
      same m r = (k m (block_needs d p st block m r)).0

      late : block_sets (meant d st) f.late b ≡ block_sets (meant d st) g.late b
      late = block_same (meant d st) f.late g.late b clean.unmixed clean.no_latch (λ m r. (k m (block_needs d p st block m (meant_needs d st m r))).1) (meant_bits d st b ∙ w)

      early : sleeps d p st block ≡ false → f.early b ≡ g.early b
      early n = by_test (is_lenient st)
          (λ e. i.lenient p st block n e b w ∙ sym (j.lenient p st block n e b w))
          (λ e. let c = plain_facts d o p st block e in
          by_test (is_quiet st f.early)
          (λ q. i.quiet p st block n e q b w ∙ block_same st f.early g.early b c.0 c.1 same w ∙ sym (j.quiet p st block n e (sym (quiet_same st f.early g.early c.0 c.1 same) ∙ q) b w))
          (λ q. i.stirred p st block n e q b w ∙ ap {B = Set4} (union (only X)) (block_same st f.early g.early b c.0 c.1 same w) ∙ sym (j.stirred p st block n e (sym (quiet_same st f.early g.early c.0 c.1 same) ∙ q) b w)))

  -- the bits that placed processes write are the same
  abbrev Placed_same : List ℕ → Type 0
  Placed_same placed = (r : ℕ) (x : Process) (b : ℕ) → slice_get d.processes r ≡ Some x → is_clocked x ≡ false → contains (writes_of x) b ≡ true → contains placed r ≡ true → SameAt f g b

  along : (order placed : List ℕ) → is_order_after placed d order ≡ true → Placed_same placed → (b : ℕ) → SameAt f g b
  along [] placed h p b = go (writer_or_none d.processes b)
    where
      go : Settling d.processes b ⊎ None_settling d.processes b → SameAt f g b
      go (inl s) = p s.number s.process b s.is s.settles s.writes_it (all_at_end d placed s.number s.process h s.is s.settles)
      go (inr s) = source_same b s
  along (q ∷ order) placed h p b = along order (q ∷ placed) t.rest next b
    where
      t : Turn d placed q order
      t = turn_of d placed q order h

      needs_same : (c : ℕ) → contains (needs t.process) c ≡ true → SameAt f g c
      needs_same c k = go (writer_or_none d.processes c)
        where
          go : Settling d.processes c ⊎ None_settling d.processes c → SameAt f g c
          go (inl s) = p s.number s.process c s.is s.settles s.writes_it (t.ready s.number s.process c s.is s.settles s.writes_it k)
          go (inr s) = source_same c s

      same_process : (x : Process) → Some t.process ≡ Some x → t.process ≡ x
      same_process x e = cc

      next : Placed_same (q ∷ placed)
      next r x c e k w z =
          by_test (r == q)
          (λ m.
          let s : t.process ≡ x = same_process x (sym t.is ∙ subst (λ n. slice_get d.processes n ≡ Some x) (eqb-true r q m) e) in
          own_same q t.process t.is t.settles needs_same c (subst (λ y. contains (writes_of y) c ≡ true) (sym s) w))
          (λ m. p r x c e k w (subst (λ y. (y || contains placed r) ≡ true) m z))

pub one_families : OneFamilies
one_families d o clocks order h = (solved d o clocks order h, λ f g i j b. along d o clocks f g i j order [] h (λ r x b e c w p. absurd (either_way false p refl)) b)
