-- The equations of a slot on a design are those of its network.
use Rattle.vs_net.specs.Lawful.{Settles, IsKnown}
use Rattle.std.proofs.Common.{◌≡◌, ℕ, ◌+◌, Bool, true, false, List, [], ◌∷◌, ◌++◌, ◌||◌, ◌==◌, if◌then◌else◌, refl, sym, ap, ◌∙◌, subst, map, length, Some, eqb-true, eq-eqb, None, Option, ◌⊎◌, inl, inr, ◌≤◌, arith}
use Rattle.std.specs.Prelude.{slice_get}
use Rattle.vs_four.specs.declared.Bit4.{Bit4}
use Rattle.vs_net.specs.Network.{State, Write, Update, put, write_all, is_written, flatten, Network, Kind, AnInput, TheClock, AnAssign, AComb, AClocked, kind, writes, made}
use Rattle.vs_net.specs.Network as N
use Rattle.vs_net.specs.Queue.{Slot, Fall, Rise}
use Rattle.vs_net.specs.Solution.{IsWriter, driven, is_asleep, blank, IsSlotEnd}
use Rattle.vs_net.proofs.Basics.{write_all_other}
use Rattle.vs_design.specs.Expressions.{Signal, Expression}
use Rattle.vs_design.specs.Values.{count_from, bits_of_signal}
use Rattle.vs_design.specs.Statements.{Target, Statement}
use Rattle.vs_design.specs.Bodies.{no_effect, body}
use Rattle.vs_design.specs.Designs.{Event, Port, Process, Continuous, Always, is_clocked, Design, top_inputs, bit_count}
use Rattle.vs_design.specs.Footprints.{contains, statement_bits, writes_of, input_bits, is_variable}
use Rattle.vs_design.specs.Clocks.{clock_bit, clock_bits, first_clock}
use Rattle.vs_design.specs.Resets.{reset_of}
use Rattle.vs_design.specs.Sleepers.{sleeper_of, sleeper_at}
use Rattle.vs_design.specs.Selects.{selectors_of, selectors_at}
use Rattle.vs_design.specs.Initials.{sole_bits}
use Rattle.vs_design.specs.Networks.{events_in, network_of, process_of, writer_of, block_process}
use Rattle.vs_design.specs.Accepted.{IsAcceptedDesign}
use Rattle.vs_design.specs.SlotValues.{clock_value, input_value, register_value, IsSlotValues, SlotValuesAre}
use Rattle.vs_design.proofs.Lists.{by_test}
use Rattle.vs_design.proofs.Writes.{either_way}
use Rattle.vs_design.proofs.Signals.{member_bits}
use Rattle.vs_design.proofs.Parts.{by_kind, process_there, writer_there, keeper_there}
use Rattle.vs_design.proofs.LawfulParts.{first_bit, variables_not_inputs, kind_below, sole_variable, sole_unwritten}
use Rattle.vs_design.proofs.ClockNets.{inside, clock_process, one_listed}
use Rattle.vs_design.proofs.TimeBits.{signal_with}
use Rattle.vs_design.proofs.TimeLaws.{clock_signal}

-- ---- what writers give

vector_writes : State → List ℕ → List Write
vector_writes v bits = map (λ b. record { bit = b; value = v b }) bits

written_vector : (v : State) (bits : List ℕ) (b : ℕ) → is_written (vector_writes v bits) b ≡ contains bits b
unfolding is_written vector_writes
written_vector v [] b = refl
written_vector v (c ∷ bits) b = ap {B = Bool} (λ x. (b == c) || x) (written_vector v bits b)

after_vector : (v : State) (bits : List ℕ) (s : State) (b : ℕ) → contains bits b ≡ true → write_all s (vector_writes v bits) b ≡ v b
unfolding write_all vector_writes
after_vector v [] s b h = cc
after_vector v (c ∷ bits) s b h =
    by_test (contains bits b)
    (λ e. after_vector v bits (put s c (v c)) b e)
    (λ e.
    let k : (b == c) ≡ true = by_test (b == c) (λ q. q) (λ q. absurd (either_way (contains bits b) (subst (λ x. (x || contains bits b) ≡ true) q h) e)) in
    write_all_other (vector_writes v bits) (put s c (v c)) b (written_vector v bits b ∙ e) ∙ put_here b c k)
  where
    put_here : (b c : ℕ) → (b == c) ≡ true → put s c (v c) b ≡ v b
    put_here b c k = rw k (ap v (sym (eqb-true b c k)))

input_driven : (bits : List ℕ) (slot : Slot) (before : State) (b : ℕ) → contains bits b ≡ true → driven (N.Input bits) slot before b ≡ input_value slot before b
unfolding write_all flatten vector_writes
input_driven [] slot before b h = cc
input_driven (c ∷ bits) (Fall v) before b h = subst (λ (ws : List Write). write_all before ws b ≡ v b) (sym (append_nil (vector_writes v (c ∷ bits)))) (after_vector v (c ∷ bits) before b h)
  where
    append_nil : (ws : List Write) → ws ++ [] ≡ ws
    append_nil [] = refl
    append_nil (w ∷ ws) = ap {B = List Write} (λ xs. w ∷ xs) (append_nil ws)
input_driven (c ∷ bits) Rise before b h = refl

clock_driven : (clock : ℕ) (slot : Slot) (before : State) → driven (N.Clock clock) slot before clock ≡ clock_value slot
unfolding write_all flatten
clock_driven clock (Fall v) before = rw (eq-eqb clock clock refl) refl
clock_driven clock Rise before = rw (eq-eqb clock clock refl) refl

register_driven : (c : ℕ) (reset : Option N.Reset) (targets : ℕ → Bool) (st : Statement) (slot : Slot) (before : State) → driven (N.Clocked c reset targets (body st)) slot before ≡ register_value reset st slot before
unfolding write_all flatten
register_driven c reset targets st (Fall v) before = refl
register_driven c reset targets st Rise before = refl

-- a block that never writes leaves its bits as they are
keeper_driven : (c : ℕ) (targets : ℕ → Bool) (slot : Slot) (before : State) → driven (N.Clocked c None targets (λ s. no_effect)) slot before ≡ before
unfolding write_all flatten
keeper_driven c targets (Fall v) before = refl
keeper_driven c targets Rise before = refl

nothing_made : (s : State) → write_all s [] ≡ s
unfolding write_all
nothing_made s = refl

module _ (d : Design) (names : List (List ℕ)) (a : IsAcceptedDesign d names) (before : State) (slot : Slot) (s : State) where
  abbrev net_work : Network
  net_work = network_of d (clock_bits a.clocks)

  process_at : (p : ℕ) (x : Process) → slice_get d.processes p ≡ Some x → net_work.process p ≡ process_of d (clock_bits a.clocks) x
  process_at p x h = process_there d (clock_bits a.clocks) p x h

  writer_at : (i : ℕ) (r : Signal) → slice_get (top_inputs d) i ≡ Some r → net_work.process (length d.processes + i) ≡ writer_of (clock_bits a.clocks) r
  writer_at i r h = writer_there d (clock_bits a.clocks) i r h

  block_is : (place : ℕ) (star : Bool) (events : List Event) (st : Statement) (c : Bool) → is_clocked (Always place star events st) ≡ c → process_of d (clock_bits a.clocks) (Always place star events st) ≡ block_process d (clock_bits a.clocks) c (Always place star events st) events st
  block_is place star events st c e = ap {B = N.Process} (λ x. block_process d (clock_bits a.clocks) x (Always place star events st) events st) e

  -- what a process gives, where it is the block of this sleeper or none
  abbrev given_by : Option N.Sleeper → N.Process → List Write
  given_by o y = if is_asleep o before s then blank (made y s) else made y s

  -- an assign doesn't sleep
  awake_assign : (p place : ℕ) (port : Port) (target_place : ℕ) (target : Target) (e : Expression) → slice_get d.processes p ≡ Some (Continuous place port target_place target e) → sleeper_at d p ≡ None
  awake_assign p place port target_place target e i = ap {B = Option N.Sleeper} (sleeper_of d) i

  -- and has no selectors
  assign_selectors : (p place : ℕ) (port : Port) (target_place : ℕ) (target : Target) (e : Expression) → slice_get d.processes p ≡ Some (Continuous place port target_place target e) → (b : ℕ) → contains (selectors_at d p) b ≡ true → ⊥
  assign_selectors p place port target_place target e i b q = either_way (contains [] b) (subst (λ o. contains (selectors_of d o) b ≡ true) i q) refl

  nothing_given : (o : Option N.Sleeper) (y : N.Process) → made y s ≡ [] → write_all s (given_by o y) ≡ s
  nothing_given o y e = subst (λ ws. write_all s ws ≡ s) (sym (none (is_asleep o before s) (made y s) e)) (nothing_made s)
    where
      none : (t : Bool) (ws : List Write) → ws ≡ [] → (if t then blank ws else ws) ≡ []
      none true ws h = rw h refl
      none false ws h = h

  -- ---- from the network's equations to the design's

  there : IsSlotEnd net_work before slot s → IsSlotValues d (clock_bits a.clocks) before slot s
  there h = record {
    assign = λ p place port target_place target e i. subst (λ o. write_all s (given_by o (process_of d (clock_bits a.clocks) (Continuous place port target_place target e))) ≡ s) (awake_assign p place port target_place target e i) (subst (λ x. write_all s (given_by (sleeper_at d p) x) ≡ s) (process_at p (Continuous place port target_place target e) i) (h.settled p (subst (λ x. Settles (kind x)) (sym (process_at p (Continuous place port target_place target e) i)) tt) (λ b q. absurd (assign_selectors p place port target_place target e i b q))));
    block = λ p st i sure. subst (λ x. write_all s (given_by (sleeper_at d p) x) ≡ s) (process_at p (Always i.place i.star i.events st) i.is ∙ block_is i.place i.star i.events st false i.combinational) (h.settled p (subst (λ x. Settles (kind x)) (sym (process_at p (Always i.place i.star i.events st) i.is ∙ block_is i.place i.star i.events st false i.combinational)) tt) sure);
    register = λ p place star events st i k b w.
        let e = process_at p (Always place star events st) i ∙ block_is place star events st true k in
        registered p (clock_bit (events_in d (clock_bits a.clocks) events)) (reset_of d (clock_bits a.clocks) (Always place star events st)) st e b w;
    clock_inputs = λ c i. clocked c (clock_process d names a c i);
    input = λ i r e f b w. given (length d.processes + i) (bits_of_signal r) (writer_at i r e ∙ input_writer r f) b w;
    kept = λ b n i k. by_test (contains (sole_bits d) b) (λ e. kept_by (sole_bits d) refl b e) (λ e. h.kept b (λ p. unwritten b n i k e p));
  }
    where
      input_writer : (r : Signal) → contains (clock_bits a.clocks) r.first ≡ false → writer_of (clock_bits a.clocks) r ≡ N.Input (bits_of_signal r)
      input_writer r e = rw e refl

      registered : (p c : ℕ) (reset : Option N.Reset) (st : Statement) → net_work.process p ≡ N.Clocked c reset (contains (statement_bits st)) (body st) → (b : ℕ) → contains (statement_bits st) b ≡ true → s b ≡ register_value reset st slot before b
      registered p c reset st e b w =
          subst (λ x. IsWriter (kind x) → writes x b ≡ true → s b ≡ driven x slot before b) e (h.updated p b) tt w ∙ ap {B = Bit4} (λ (t : State). t b) (register_driven c reset (contains (statement_bits st)) st slot before)

      clocked : (c : ℕ) → (p : ℕ) × (net_work.process p ≡ N.Clock c) → s c ≡ clock_value slot
      clocked c (p, e) = subst (λ x. IsWriter (kind x) → writes x c ≡ true → s c ≡ driven x slot before c) e (h.updated p c) tt (eq-eqb c c refl) ∙ clock_driven c slot before

      given : (p : ℕ) (bits : List ℕ) → net_work.process p ≡ N.Input bits → (b : ℕ) → contains bits b ≡ true → s b ≡ input_value slot before b
      given p bits e b w = subst (λ x. IsWriter (kind x) → writes x b ≡ true → s b ≡ driven x slot before b) e (h.updated p b) tt w ∙ input_driven bits slot before b w

      -- what initial processes alone write stays
      kept_by : (bs : List ℕ) → sole_bits d ≡ bs → (b : ℕ) → contains bs b ≡ true → s b ≡ before b
      kept_by [] q b e = cc
      kept_by (m ∷ bs) q b e =
          let r = keeper_there d (clock_bits a.clocks) m bs q in
          subst (λ x. IsWriter (kind x) → writes x b ≡ true → s b ≡ driven x slot before b) r.1 (h.updated r.0 b) tt e ∙ ap {B = Bit4} (λ (t : State). t b) (keeper_driven (first_clock (clock_bits a.clocks)) (contains (m ∷ bs)) slot before)

      unwritten : (b : ℕ) → ((p : ℕ) (process : Process) → slice_get d.processes p ≡ Some process → contains (writes_of process) b ≡ false) → contains (input_bits d) b ≡ false → contains (clock_bits a.clocks) b ≡ false → contains (sole_bits d) b ≡ false
          → (p : ℕ) → writes (net_work.process p) b ≡ false
      unwritten b n i k o = by_kind d (clock_bits a.clocks) (λ p x. writes x b ≡ false) (record {
        assigns = λ p place port target_place target e h. n p (Continuous place port target_place target e) h;
        combs = λ p place star events st h c. n p (Always place star events st) h;
        clocked = λ p place star events st h c. n p (Always place star events st) h;
        inputs = λ p j r l e f. outside j r e;
        clock = λ p j r l e f. other r.first f;
        spare = λ p j m l f named past. other m named;
        keeper = λ p l m bs e. subst (λ xs. contains xs b ≡ false) e o;
        none = λ p. refl;
      })
        where
          other : (c : ℕ) → contains (clock_bits a.clocks) c ≡ true → (b == c) ≡ false
          other c f = by_test (b == c) (λ q. absurd (either_way (contains (clock_bits a.clocks) b) (subst (λ m. contains (clock_bits a.clocks) m ≡ true) (sym (eqb-true b c q)) f) k)) (λ q. q)

          outside : (j : ℕ) (r : Signal) → slice_get (top_inputs d) j ≡ Some r → contains (bits_of_signal r) b ≡ false
          outside j r e = by_test (contains (bits_of_signal r) b) (λ q. absurd (either_way (contains (input_bits d) b) (member_bits (top_inputs d) j r b e q) i)) (λ q. q)

  -- ---- and back

  back : IsSlotValues d (clock_bits a.clocks) before slot s → IsSlotEnd net_work before slot s
  back h = record {
    settled = by_kind d (clock_bits a.clocks) (λ p x. Settles (kind x) → ((b : ℕ) → contains (selectors_at d p) b ≡ true → IsKnown (s b)) → write_all s (given_by (sleeper_at d p) x) ≡ s) (record {
      assigns = λ p place port target_place target e i z sure. subst (λ o. write_all s (given_by o (process_of d (clock_bits a.clocks) (Continuous place port target_place target e))) ≡ s) (sym (awake_assign p place port target_place target e i)) (h.assign p place port target_place target e i);
      combs = λ p place star events st i k z sure. h.block p st (record { place = place; star = star; events = events; is = i; combinational = k }) sure;
      clocked = λ p place star events st i k z. absurd z;
      inputs = λ p j r l e f z. absurd z;
      clock = λ p j r l e f z. absurd z;
      spare = λ p i m l f named past z. absurd z;
      keeper = λ p l m bs e z. absurd z;
      none = λ p z. absurd z;
    });
    updated = λ p b. by_kind d (clock_bits a.clocks) (λ p x. IsWriter (kind x) → writes x b ≡ true → s b ≡ driven x slot before b) (record {
      assigns = λ p place port target_place target e i w z. absurd w;
      combs = λ p place star events st i k w z. absurd w;
      clocked = λ p place star events st i k w z. h.register p place star events st i k b z ∙ sym (ap {B = Bit4} (λ (t : State). t b) (register_driven (clock_bit (events_in d (clock_bits a.clocks) events)) (reset_of d (clock_bits a.clocks) (Always place star events st)) (contains (statement_bits st)) st slot before));
      inputs = λ p j r l e f w z. h.input j r e f b z ∙ sym (input_driven (bits_of_signal r) slot before b z);
      clock = λ p j r l e f w z. subst (λ m. s m ≡ driven (N.Clock r.first) slot before m) (sym (eqb-true b r.first z)) (h.clock_inputs r.first f ∙ sym (clock_driven r.first slot before));
      spare = λ p i m l f named past w z. subst (λ n. s n ≡ driven (N.Clock m) slot before n) (sym (eqb-true b m z)) (h.clock_inputs m named ∙ sym (clock_driven m slot before));
      keeper = λ p l m bs e w z.
          let o : contains (sole_bits d) b ≡ true = subst (λ xs. contains xs b ≡ true) (sym e) z in
          h.kept b (λ q x g. sole_unwritten d names a (clock_bits a.clocks) b q x o g) (sole_no_input b o) (sole_no_clock b o) ∙ sym (ap {B = Bit4} (λ (t : State). t b) (keeper_driven (first_clock (clock_bits a.clocks)) (contains (m ∷ bs)) slot before));
      none = λ p w z. cc;
    }) p;
    kept = λ b n. h.kept b (λ p x e. not_written b n p x e) (no_input b n) (not_clock b n);
  }
    where
      sole_no_input : (b : ℕ) → contains (sole_bits d) b ≡ true → contains (input_bits d) b ≡ false
      sole_no_input b o = by_test (contains (input_bits d) b) (λ i. absurd (variables_not_inputs d names a (clock_bits a.clocks) b (sole_variable d names a (clock_bits a.clocks) b o) i)) (λ i. i)

      sole_no_clock : (b : ℕ) → contains (sole_bits d) b ≡ true → contains (clock_bits a.clocks) b ≡ false
      sole_no_clock b o = by_test (contains (clock_bits a.clocks) b) (λ e. absurd (by_place (inside d names a b e))) (λ e. e)
        where
          by_place : (contains (input_bits d) b ≡ true) ⊎ (bit_count d ≤ b) → ⊥
          by_place (inl q) = variables_not_inputs d names a (clock_bits a.clocks) b (sole_variable d names a (clock_bits a.clocks) b o) q
          by_place (inr past) = let low = kind_below d names a (clock_bits a.clocks) is_variable b (sole_variable d names a (clock_bits a.clocks) b o) in omega (arith, past, low)

      of_process : (x : Process) (b : ℕ) → contains (writes_of x) b ≡ true → writes (process_of d (clock_bits a.clocks) x) b ≡ true
      of_process (Continuous place port target_place target e) b w = w
      of_process (Always place star events st) b w = go (is_clocked (Always place star events st))
        where
          go : (c : Bool) → writes (block_process d (clock_bits a.clocks) c (Always place star events st) events st) b ≡ true
          go true = w
          go false = w

      not_written : (b : ℕ) → ((p : ℕ) → writes (net_work.process p) b ≡ false) → (p : ℕ) (x : Process) → slice_get d.processes p ≡ Some x → contains (writes_of x) b ≡ false
      not_written b n p x e = by_test (contains (writes_of x) b) (λ w. absurd (either_way (writes (net_work.process p) b) (subst (λ y. writes y b ≡ true) (sym (process_at p x e)) (of_process x b w)) (n p))) (λ w. w)

      not_clock : (b : ℕ) → ((p : ℕ) → writes (net_work.process p) b ≡ false) → contains (clock_bits a.clocks) b ≡ false
      not_clock b n = by_test (contains (clock_bits a.clocks) b) (λ q. absurd (let r = clock_process d names a b q in either_way (b == b) (eq-eqb b b refl) (subst (λ x. writes x b ≡ false) r.1 (n r.0)))) (λ q. q)

      no_input : (b : ℕ) → ((p : ℕ) → writes (net_work.process p) b ≡ false) → contains (input_bits d) b ≡ false
      no_input b n = by_test (contains (input_bits d) b) (λ i. absurd (one (signal_with (top_inputs d) b i))) (λ i. i)
        where
          one : (i : ℕ) × (r : Signal) × (slice_get (top_inputs d) i ≡ Some r) × (contains (bits_of_signal r) b ≡ true) → ⊥
          one q =
              by_test (contains (clock_bits a.clocks) q.1.first)
              (λ e.
              let k : b ≡ q.1.first = one_listed q.1.first b (subst (λ n. contains (count_from q.1.first n) b ≡ true) (clock_signal d names a q.0 q.1 q.1.first e q.2 (first_bit q.1)).1 q.3) in
              either_way (writes (net_work.process (length d.processes + q.0)) b) (subst (λ x. writes x b ≡ true) (sym (writer_at q.0 q.1 q.2 ∙ clock_case e)) (eq-eqb b q.1.first k)) (n (length d.processes + q.0)))
              (λ e. either_way (writes (net_work.process (length d.processes + q.0)) b) (subst (λ x. writes x b ≡ true) (sym (writer_at q.0 q.1 q.2 ∙ input_case e)) q.3) (n (length d.processes + q.0)))
            where
              clock_case : contains (clock_bits a.clocks) q.1.first ≡ true → writer_of (clock_bits a.clocks) q.1 ≡ N.Clock q.1.first
              clock_case e = rw e refl

              input_case : contains (clock_bits a.clocks) q.1.first ≡ false → writer_of (clock_bits a.clocks) q.1 ≡ N.Input (bits_of_signal q.1)
              input_case e = rw e refl

pub slot_values_are : SlotValuesAre
slot_values_are d names a before slot s = (there d names a before slot s, back d names a before slot s)
