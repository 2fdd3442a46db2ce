-- Dead nets are z throughout.
use Rattle.std.proofs.Common.{◌≡◌, ℕ, zero, suc, ◌≤◌, Bool, true, false, not, cond, List, [], ◌∷◌, ◌&&◌, ◌||◌, ◌==◌, eqb-true, eq-eqb, map, filter, length, inl, inr, ◌⊎◌, refl, sym, ap, ◌∙◌, subst, arith, Some, if◌then◌else◌}
use Rattle.std.specs.Prelude.{slice_get}
use Rattle.std.proofs.lemmas.Bool.{cond-true}
use Rattle.vs_four.specs.declared.Bit4.{Bit4}
use Rattle.vs_four.specs.declared.Bit4.TheVariants.{Z}
use Rattle.vs_net.specs.Network.{State, Write, write_all}
use Rattle.vs_net.specs.Queue.{Slot}
use Rattle.vs_design.specs.Expressions.{Signal, Expression}
use Rattle.vs_design.specs.Statements.{Whole, Empty}
use Rattle.vs_design.specs.Values.{bits_of_signal}
use Rattle.vs_design.specs.Bodies.{assignment_writes}
use Rattle.vs_design.specs.Designs.{Port, Process, Continuous, Always, process_place, Design, bit_count}
use Rattle.vs_design.specs.Footprints.{contains, signals_bits, net_bits, input_bits, is_net, writes_of}
use Rattle.vs_design.specs.Rules.{written_bits}
use Rattle.vs_design.specs.Clocks.{clock_bits, name_of, port_targets, nets_within}
use Rattle.vs_design.specs.Dead.{is_undriven, undriven_nets, is_port, dead_nets, is_dead, left_of, without_dead}
use Rattle.vs_design.specs.Accepted.{IsAcceptedDesign}
use Rattle.vs_design.specs.SlotValues.{IsSlotValues}
use Rattle.vs_design.proofs.Lists.{by_test, and_both, contains-left, contains-right}
use Rattle.vs_design.proofs.Writes.{either_way}
use Rattle.vs_design.proofs.Drivers.{written_some}
use Rattle.vs_design.proofs.Facts.{assign_facts}
use Rattle.vs_design.proofs.LawfulParts.{first_bit, nets_not_inputs, kind_below}
use Rattle.vs_design.proofs.ClockNets.{bit_signal, inside, net_is, PortFacts, PortAt, port_at, port_value, one_listed, one_net, name_facts, copy}

same_some : {A : Type 0} {x y : A} → Some x ≡ Some y → x ≡ y
same_some h = cc

-- what stands in a list of those that pass a test stands in the whole list, and passes it
filtered : {A : Type 0} (t : A → Bool) (xs : List A) (k : ℕ) (x : A) → slice_get (filter t xs) k ≡ Some x → (i : ℕ) × (slice_get xs i ≡ Some x) × (t x ≡ true)
filtered t [] k x h = cc
filtered {A} t (y ∷ xs) k x h =
    by_test (t y)
    (λ e. taken e k (subst (λ (c : Bool). slice_get (cond c (y ∷ filter t xs) (filter t xs)) k ≡ Some x) e h) (λ j g. filtered t xs j x g))
    (λ e. more (filtered t xs k x (subst (λ (c : Bool). slice_get (cond c (y ∷ filter t xs) (filter t xs)) k ≡ Some x) e h)))
  where
    more : (i : ℕ) × (slice_get xs i ≡ Some x) × (t x ≡ true) → (i : ℕ) × (slice_get (y ∷ xs) i ≡ Some x) × (t x ≡ true)
    more r = (suc r.0, r.1, r.2)

    taken : t y ≡ true → (j : ℕ) → slice_get (y ∷ filter t xs) j ≡ Some x → ((m : ℕ) → slice_get (filter t xs) m ≡ Some x → (i : ℕ) × (slice_get xs i ≡ Some x) × (t x ≡ true)) → (i : ℕ) × (slice_get (y ∷ xs) i ≡ Some x) × (t x ≡ true)
    taken e zero g later = (0, g, subst (λ (z : A). t z ≡ true) (same_some g) e)
    taken e (suc j) g later = more (later j g)

-- a signal's bits are among those of the signals of its kind
listed : (t : Signal → Bool) (ss : List Signal) (i : ℕ) (s : Signal) (b : ℕ) → slice_get ss i ≡ Some s → t s ≡ true → contains (bits_of_signal s) b ≡ true → contains (signals_bits (filter t ss)) b ≡ true
listed t [] i s b h k l = cc
listed t (r ∷ ss) zero s b h k l =
    let e = same_some h in
    let u : t r ≡ true = subst (λ (z : Signal). t z ≡ true) (sym e) k in
    subst (λ (c : Bool). contains (signals_bits (cond c (r ∷ filter t ss) (filter t ss))) b ≡ true) (sym u) (contains-left (bits_of_signal r) (signals_bits (filter t ss)) b (subst (λ (z : Signal). contains (bits_of_signal z) b ≡ true) (sym e) l))
listed t (r ∷ ss) (suc i) s b h k l = kept (t r) (listed t ss i s b h k l)
  where
    kept : (c : Bool) → contains (signals_bits (filter t ss)) b ≡ true → contains (signals_bits (cond c (r ∷ filter t ss) (filter t ss))) b ≡ true
    kept true rest = contains-right (bits_of_signal r) (signals_bits (filter t ss)) b rest
    kept false rest = rest

mapped : (f : Process → Process) (ps : List Process) (i : ℕ) (x : Process) → slice_get ps i ≡ Some x → slice_get (map f ps) i ≡ Some (f x)
mapped f [] i x h = cc
mapped f (p ∷ ps) zero x h = ap (λ (q : Process). Some (f q)) (same_some h)
mapped f (p ∷ ps) (suc i) x h = mapped f ps i x h

mapped_from : (f : Process → Process) (ps : List Process) (i : ℕ) (x : Process) → slice_get (map f ps) i ≡ Some x → (y : Process) × (slice_get ps i ≡ Some y) × (f y ≡ x)
mapped_from f [] i x h = cc
mapped_from f (p ∷ ps) zero x h = (p, refl, same_some h)
mapped_from f (p ∷ ps) (suc i) x h = mapped_from f ps i x h

-- what is left of a process writes no more than it did
left_writes : (nets : List ℕ) (p : Process) (b : ℕ) → contains (writes_of p) b ≡ false → contains (writes_of (left_of nets p)) b ≡ false
left_writes nets p b h = go (is_dead nets p) refl
  where
    go : (c : Bool) → is_dead nets p ≡ c → contains (writes_of (left_of nets p)) b ≡ false
    go true e = subst (λ (c : Bool). contains (writes_of (if c then Always (process_place p) true [] Empty else p)) b ≡ false) (sym e) refl
    go false e = subst (λ (c : Bool). contains (writes_of (if c then Always (process_place p) true [] Empty else p)) b ≡ false) (sym e) h

-- one write
written_one : (s : State) (b : ℕ) (v : Bit4) → write_all s (record { bit = b; value = v } ∷ []) b ≡ v
unfolding write_all
written_one s b v = cond-true (b == b) v (s b) (eq-eqb b b refl)

no_more : (a b : Bool) → (a && not b) ≡ true → b ≡ false
no_more true false h = refl
no_more true true h = cc
no_more false b h = cc

module _ (d : Design) (names : List (List ℕ)) (a : IsAcceptedDesign (without_dead d) names) where
  abbrev left : Design
  left = without_dead d

  abbrev ports : List Process
  ports = filter is_port d.processes

  -- ---- a net that no process writes

  record Undriven (b : ℕ) : Type 0 where
    net : contains (net_bits d) b ≡ true
    unwritten : contains (written_bits d.processes) b ≡ false

  undriven : (b : ℕ) → contains (undriven_nets d) b ≡ true → Undriven b
  undriven b h =
      let s = bit_signal (filter (is_undriven (written_bits d.processes)) d.signals) b h in
      let f = filtered (is_undriven (written_bits d.processes)) d.signals s.0 s.1 s.2 in
      let k = and_both (is_net s.1 && (Rattle.vs_design.specs.Expressions.signal_length s.1 == 1)) (not (contains (written_bits d.processes) s.1.first)) f.2 in
      let n = and_both (is_net s.1) (Rattle.vs_design.specs.Expressions.signal_length s.1 == 1) k.0 in
      record {
        net = subst (λ (m : ℕ). contains (net_bits d) m ≡ true) s.3 (listed is_net d.signals f.0 s.1 s.1.first f.1 n.0 (first_bit s.1));
        unwritten = subst (λ (m : ℕ). contains (written_bits d.processes) m ≡ false) s.3 (no_more (is_net s.1 && (Rattle.vs_design.specs.Expressions.signal_length s.1 == 1)) (contains (written_bits d.processes) s.1.first) f.2);
      }

  no_process : (b : ℕ) → contains (written_bits d.processes) b ≡ false → (p : ℕ) (x : Process) → slice_get left.processes p ≡ Some x → contains (writes_of x) b ≡ false
  no_process b none p x h =
      let y = mapped_from (left_of (dead_nets d)) d.processes p x h in
      let own : contains (writes_of y.0) b ≡ false =
      by_test (contains (writes_of y.0) b) (λ w. absurd (either_way (contains (written_bits d.processes) b) (written_some d.processes p y.0 b y.1 w) none)) (λ w. w) in
      subst (λ (z : Process). contains (writes_of z) b ≡ false) y.2 (left_writes (dead_nets d) y.0 b own)

  no_input : (b : ℕ) → contains (net_bits d) b ≡ true → contains (input_bits left) b ≡ false
  no_input b n = by_test (contains (input_bits left) b) (λ e. absurd (nets_not_inputs left names a (clock_bits a.clocks) b n e)) (λ e. e)

  no_clock : (b : ℕ) → contains (net_bits d) b ≡ true → contains (clock_bits a.clocks) b ≡ false
  no_clock b n = by_test (contains (clock_bits a.clocks) b) (λ e. absurd (go (inside left names a b e))) (λ e. e)
    where
      go : (contains (input_bits left) b ≡ true) ⊎ (bit_count left ≤ b) → ⊥
      go (inl e) = nets_not_inputs left names a (clock_bits a.clocks) b n e
      go (inr l) = let m = kind_below left names a (clock_bits a.clocks) is_net b n in omega (arith, l, m)

  -- ---- a port

  record Copied (nets : List ℕ) (b : ℕ) : Type 0 where
    number : ℕ
    place : ℕ
    target_place : ℕ
    port : Port
    signal : Signal
    source : Signal
    e : Expression
    is : slice_get left.processes number ≡ Some (Continuous place port target_place (Whole signal) e)
    first_is : b ≡ signal.first
    from : contains nets source.first ≡ true
    copies : (s : State) → assignment_writes (Whole signal) e s ≡ record { bit = signal.first; value = s source.first } ∷ []

  copied : (nets : List ℕ) (b : ℕ) → contains (port_targets nets ports) b ≡ true → Copied nets b
  copied nets b h =
      let q = port_at nets ports b h in
      let f = q.port in
      let at = filtered is_port d.processes q.number q.process q.is in
      let o = one_net nets (name_of f.e) f.from in
      record {
        number = at.0;
        place = f.place;
        target_place = f.target_place;
        port = f.port;
        signal = f.signal;
        source = o.0;
        e = f.e;
        is = mapped (left_of (dead_nets d)) d.processes at.0 q.process at.1 ∙ ap (λ (x : Process). Some (left_of (dead_nets d) x)) f.is;
        first_is = one_listed f.signal.first b (subst (λ (xs : List ℕ). contains xs b ≡ true) (port_value nets q.process f) q.has_it);
        from = o.3;
        copies = λ s. copy f.signal o.0 f.e s (name_facts f.e o.0 o.1) (eqb-true (Rattle.vs_design.specs.Expressions.signal_length f.signal) 1 f.one_bit) o.2;
      }

  net_copied : (nets : List ℕ) (b : ℕ) → Copied nets b → contains (net_bits d) b ≡ true
  net_copied nets b c =
      subst (λ (m : ℕ). contains (net_bits d) m ≡ true) (sym c.first_is)
      ((assign_facts left names a c.number c.place c.port c.target_place (Whole c.signal) c.e c.is).nets c.signal.first (first_bit c.signal))

  pub are_nets : (b : ℕ) → contains (dead_nets d) b ≡ true → contains (net_bits d) b ≡ true
  are_nets b h = go (net_is (length ports) ports (undriven_nets d) b h)
    where
      go : (contains (undriven_nets d) b ≡ true) ⊎ (contains (port_targets (dead_nets d) ports) b ≡ true) → contains (net_bits d) b ≡ true
      go (inl u) = (undriven b u).net
      go (inr p) = net_copied (dead_nets d) b (copied (dead_nets d) b p)

  -- ---- the values at the end of a slot

  module _ (before : State) (slot : Slot) (s : State) (values : IsSlotValues (without_dead d) (clock_bits a.clocks) before slot s) (idle : (b : ℕ) → contains (dead_nets d) b ≡ true → before b ≡ Z) where
    undriven_stays : (b : ℕ) → contains (undriven_nets d) b ≡ true → contains (dead_nets d) b ≡ true → s b ≡ Z
    undriven_stays b u dead = let f = undriven b u in values.kept b (no_process b f.unwritten) (no_input b f.net) (no_clock b f.net) ∙ idle b dead

    copied_stays : (nets : List ℕ) (b : ℕ) → ((m : ℕ) → contains nets m ≡ true → s m ≡ Z) → Copied nets b → s b ≡ Z
    copied_stays nets b all c =
        ap s c.first_is
        ∙ (ap (λ (t : State). t c.signal.first) (sym (values.assign c.number c.place c.port c.target_place (Whole c.signal) c.e c.is))
        ∙ (ap (λ (ws : List Write). write_all s ws c.signal.first) (c.copies s)
        ∙ (written_one s c.signal.first (s c.source.first) ∙ all c.source.first c.from)))

    -- those that are so many ports away
    within : (n : ℕ) (b : ℕ) → ((m : ℕ) → contains (undriven_nets d) m ≡ true → contains (dead_nets d) m ≡ true) → contains (nets_within n ports (undriven_nets d)) b ≡ true → s b ≡ Z
    within zero b own h = undriven_stays b h (own b h)
    within (suc n) b own h =
        by_test (contains (undriven_nets d) b)
        (λ e. undriven_stays b e (own b e))
        (λ e. copied_stays (nets_within n ports (undriven_nets d)) b (λ m k. within n m own k) (copied (nets_within n ports (undriven_nets d)) b
        (subst (λ (c : Bool). (c || contains (port_targets (nets_within n ports (undriven_nets d)) ports) b) ≡ true) e (sym (Rattle.vs_design.proofs.Lists.contains-append (undriven_nets d) (port_targets (nets_within n ports (undriven_nets d)) ports) b) ∙ h))))

    pub stay : (b : ℕ) → contains (dead_nets d) b ≡ true → s b ≡ Z
    stay b h = within (length ports) b (λ m k. Rattle.vs_design.proofs.ClockNets.clock_in (length ports) ports (undriven_nets d) m k) h
