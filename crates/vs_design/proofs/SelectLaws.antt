-- The select nets of an accepted design's network.
use Rattle.std.proofs.Common.{◌≡◌, ℕ, zero, suc, ◌+◌, Bool, true, false, not, ◌&&◌, ◌==◌, eqb-true, List, [], ◌∷◌, length, if◌then◌else◌, ◌⊎◌, inl, inr, refl, sym, ap, ◌∙◌, subst, Option, Some, None, arith}
use Rattle.std.specs.Prelude.{slice_get}
use Rattle.std.specs.List.{list_all, filter}
use Rattle.vs_four.specs.declared.Bit4.{Bit4}
use Rattle.vs_four.specs.declared.Bit4.TheVariants.{Zero}
use Rattle.vs_net.specs.Network.{State, Network, Kind, AnInput, AComb, kind, writes, listens, made, write_all}
use Rattle.vs_net.specs.Network as N
use Rattle.vs_net.specs.Lawful.{Settles, IsKnown}
use Rattle.vs_design.specs.Expressions.{Signal}
use Rattle.vs_design.specs.Values.{bits_of_signal}
use Rattle.vs_design.specs.Statements.{Whole, Statement}
use Rattle.vs_design.specs.Bodies.{assignment_writes, body}
use Rattle.vs_design.specs.Designs.{Event, InputPort, Process, Continuous, Always, is_clocked, Design, top_inputs}
use Rattle.vs_design.specs.Footprints.{contains, signals_bits, statement_bits, waits_of}
use Rattle.vs_design.specs.Clocks.{name_of, clock_bits}
use Rattle.vs_design.specs.Levels.{level_order}
use Rattle.vs_design.specs.Sets.{Set4, has, known_set, any_value}
use Rattle.vs_design.specs.LiftedBodies.{assign_sets}
use Rattle.vs_design.specs.Sleepers.{is_sleeping, sleeper_if, sleeper_of, sleeper_at}
use Rattle.vs_design.specs.Selects.{is_lenient, select_root, selectors_of, selectors_at, root_numbers, select_inputs, data_selects}
use Rattle.vs_design.specs.TimeZero.{Families, families}
use Rattle.vs_design.specs.Elaborated.{are_numbered}
use Rattle.vs_design.specs.Networks.{network_of, process_of, block_process}
use Rattle.vs_design.specs.Equations.{IsBlock, IsOrderly, IsSolved}
use Rattle.vs_design.specs.Accepted.{IsAcceptedDesign}
use Rattle.vs_design.proofs.Lists.{by_test, and_both}
use Rattle.vs_design.proofs.Writes.{either_way}
use Rattle.vs_design.proofs.Parts.{process_there, writer_there}
use Rattle.vs_design.proofs.Formed.{filtered_bits}
use Rattle.vs_design.proofs.Facts.{assign_facts}
use Rattle.vs_design.proofs.LawfulParts.{one_writer, first_bit}
use Rattle.vs_design.proofs.ClockNets.{name_facts, one_listed}
use Rattle.vs_design.proofs.ClockLaws.{comb_nets}
use Rattle.vs_design.proofs.Along.{assign_made}
use Rattle.vs_design.proofs.Solved.{solved}
use Rattle.vs_design.proofs.SleepLaws.{still_variable}
use Rattle.vs_design.proofs.TimeBits.{known_set_is, all_of_bits, signal_with, some_is}
use Rattle.vs_design.proofs.TimeLaws.{clock_signal, late_root}
use Rattle.vs_design.proofs.PortSets.{port_known}
use Rattle.vs_design.proofs.Covering.{and_true}
use Rattle.vs_design.proofs.SelectNets.{IsAt, PortTo, by_root, root_view, clock_rooted, rooted_apart}
use Rattle.vs_design.proofs.Surely.{SelectorFacts, selector_facts}

-- ---- the design

filtered_at : (t : Signal → Bool) (ss : List Signal) (i : ℕ) (s : Signal) → slice_get (filter t ss) i ≡ Some s → (j : ℕ) × (slice_get ss j ≡ Some s) × (t s ≡ true)
filtered_at t [] i s h = cc
filtered_at t (x ∷ ss) i s h = go (t x) refl i h (λ k. filtered_at t ss k s)
  where
    Later : Type 0
    Later = (i : ℕ) → slice_get (filter t ss) i ≡ Some s → (j : ℕ) × (slice_get ss j ≡ Some s) × (t s ≡ true)

    go : (c : Bool) → t x ≡ c → (i : ℕ) → slice_get (if c then (x ∷ filter t ss) else filter t ss) i ≡ Some s → Later → (j : ℕ) × (slice_get (x ∷ ss) j ≡ Some s) × (t s ≡ true)
    go true e zero k later = (0, k, subst (λ z. t z ≡ true) (some_is x s k) e)
    go true e (suc i) k later = let r = later i k in (suc r.0, r.1, r.2)
    go false e i k later = let r = later i k in (suc r.0, r.1, r.2)

in_filter : (t : Signal → Bool) (ss : List Signal) (j : ℕ) (s : Signal) → slice_get ss j ≡ Some s → t s ≡ true → (i : ℕ) × (slice_get (filter t ss) i ≡ Some s)
in_filter t [] j s h k = cc
in_filter t (x ∷ ss) zero s h k = (0, rw (subst (λ z. t z ≡ true) (sym (some_is x s h)) k) h)
in_filter t (x ∷ ss) (suc j) s h k = let r = in_filter t ss j s h k in by_test (t x) (λ e. (suc r.0, rw e r.1)) (λ e. (r.0, rw e r.1))

numbered_at : (n scope : ℕ) (ss : List Signal) (i : ℕ) (s : Signal) → are_numbered n scope ss ≡ true → slice_get ss i ≡ Some s → s.number ≡ n + i
numbered_at n scope [] i s f h = cc
numbered_at n scope (x ∷ ss) zero s f h =
    let a = and_both ((x.number == n) && Rattle.std.specs.Prelude.nat_le scope x.scope) (are_numbered (suc n) x.scope ss) f in
    let b = eqb-true x.number n (and_both (x.number == n) (Rattle.std.specs.Prelude.nat_le scope x.scope) a.0).0 in
    ap (λ (z : Signal). z.number) (sym (some_is x s h)) ∙ b ∙ omega arith
numbered_at n scope (x ∷ ss) (suc i) s f h =
    let a = and_both ((x.number == n) && Rattle.std.specs.Prelude.nat_le scope x.scope) (are_numbered (suc n) x.scope ss) f in
    numbered_at (suc n) x.scope ss i s a.1 h ∙ omega arith

-- the signal has the number of a select input, and isn't a clock
abbrev pub is_data : List ℕ → List ℕ → Option Signal → Bool
is_data roots clocks (Some r) = contains roots r.number && not (contains clocks r.first)
is_data roots clocks None = false

module _ (d : Design) (names : List (List ℕ)) (a : IsAcceptedDesign d names) where
  abbrev pub net_work : Network
  net_work = network_of d (clock_bits a.clocks)

  abbrev sets : Families
  sets = families d (clock_bits a.clocks) (level_order d)

  orderly : IsOrderly d
  orderly = record { lawful = a.lawful; unmixed = a.unmixed; no_latch = a.no_latch; one_driver = a.one_driver }

  solution : IsSolved d (clock_bits a.clocks) sets
  solution = solved d orderly (clock_bits a.clocks) (level_order d) a.no_cycle

  -- the select nets of the network
  abbrev pub selects : ℕ → Bool
  selects b = contains (signals_bits (filter (λ s. is_data (root_numbers d) (clock_bits a.clocks) (select_root d s)) d.signals)) b

  record SelectAt (b : ℕ) : Type 0 where
    signal : Signal
    there : slice_get d.signals signal.number ≡ Some signal
    has_it : contains (bits_of_signal signal) b ≡ true
    root : Signal
    rooted : select_root d signal ≡ Some root
    listed : contains (root_numbers d) root.number ≡ true
    is_input : contains (clock_bits a.clocks) root.first ≡ false

  select_at : (b : ℕ) → selects b ≡ true → SelectAt b
  select_at b h = by_root_of (select_root d s.1) refl f.2
    where
      s : (i : ℕ) × (s : Signal) × (slice_get (filter (λ s. is_data (root_numbers d) (clock_bits a.clocks) (select_root d s)) d.signals) i ≡ Some s) × (contains (bits_of_signal s) b ≡ true)
      s = signal_with (filter (λ s. is_data (root_numbers d) (clock_bits a.clocks) (select_root d s)) d.signals) b h

      f : (j : ℕ) × (slice_get d.signals j ≡ Some s.1) × (is_data (root_numbers d) (clock_bits a.clocks) (select_root d s.1) ≡ true)
      f = filtered_at (λ s. is_data (root_numbers d) (clock_bits a.clocks) (select_root d s)) d.signals s.0 s.1 s.2

      at : slice_get d.signals s.1.number ≡ Some s.1
      at = subst (λ m. slice_get d.signals m ≡ Some s.1) (sym (numbered_at 0 0 d.signals f.0 s.1 a.lawful.numbered f.1 ∙ omega arith)) f.1

      no_more : (c : Bool) → not c ≡ true → c ≡ false
      no_more true e = cc
      no_more false e = refl

      by_root_of : (o : Option Signal) → select_root d s.1 ≡ o → is_data (root_numbers d) (clock_bits a.clocks) o ≡ true → SelectAt b
      by_root_of None e k = cc
      by_root_of (Some r) e k =
          let p = and_both (contains (root_numbers d) r.number) (not (contains (clock_bits a.clocks) r.first)) k in
          record { signal = s.1; there = at; has_it = s.3; root = r; rooted = e; listed = p.0; is_input = no_more (contains (clock_bits a.clocks) r.first) p.1 }

  -- what gives a select net its value: a data input, or a port that copies another one
  data Driver (b : ℕ) : Type 0 where
    of_input : (s : Signal) (i : ℕ) → slice_get (top_inputs d) i ≡ Some s → contains (bits_of_signal s) b ≡ true → contains (clock_bits a.clocks) s.first ≡ false → Driver b
    of_port : (s u : Signal) → (p : PortTo d a.lawful s u) → contains (bits_of_signal s) b ≡ true → ((c : ℕ) → contains (bits_of_signal u) c ≡ true → selects c ≡ true) → Driver b

  driver : (b : ℕ) → selects b ≡ true → Driver b
  driver b h = go (root_view d a.lawful s.signal s.root s.there s.rooted)
    where
      s : SelectAt b
      s = select_at b h

      go : ((s.signal.input ≡ true) × (s.signal ≡ s.root)) ⊎ ((u : Signal) × PortTo d a.lawful s.signal u × (select_root d u ≡ Some s.root)) → Driver b
      go (inl x) = let i = in_filter (λ z. z.input) d.signals s.signal.number s.signal s.there x.0 in of_input s.signal i.0 i.1 s.has_it (ap (λ (z : Signal). contains (clock_bits a.clocks) z.first) x.1 ∙ s.is_input)
      go (inr x) = of_port s.signal x.0 x.1 s.has_it (λ c m. filtered_bits (λ z. is_data (root_numbers d) (clock_bits a.clocks) (select_root d z)) d.signals x.0.number x.0 c x.1.there
          (ap (is_data (root_numbers d) (clock_bits a.clocks)) x.2 ∙ and_true (contains (root_numbers d) s.root.number) (not (contains (clock_bits a.clocks) s.root.first)) s.listed (ap not s.is_input)) m)

  input_is : (s : Signal) (i : ℕ) → slice_get (top_inputs d) i ≡ Some s → contains (clock_bits a.clocks) s.first ≡ false → net_work.process (length d.processes + i) ≡ N.Input (bits_of_signal s)
  input_is s i h f = writer_there d (clock_bits a.clocks) i s h ∙ rw f refl

  pub select_driven : (b : ℕ) → selects b ≡ true → (p : ℕ) × (writes (net_work.process p) b ≡ true) × ((kind (net_work.process p) ≡ AnInput) ⊎ (Settles (kind (net_work.process p)) × (sleeper_at d p ≡ None)))
  select_driven b h = go (driver b h)
    where
      go : Driver b → (p : ℕ) × (writes (net_work.process p) b ≡ true) × ((kind (net_work.process p) ≡ AnInput) ⊎ (Settles (kind (net_work.process p)) × (sleeper_at d p ≡ None)))
      go (of_input s i e m f) = (length d.processes + i, rw (input_is s i e f) m, inl (rw (input_is s i e f) refl))
      go (of_port s u p m k) =
          let at = process_there d (clock_bits a.clocks) p.number (Continuous p.place InputPort p.target_place (Whole s) p.e) p.is in
          (p.number, rw at m, inr (rw at tt, rw p.is refl))

  pub select_made : (p b : ℕ) (s t : State) → Settles (kind (net_work.process p)) → selects b ≡ true → writes (net_work.process p) b ≡ true → ((c : ℕ) → listens (net_work.process p) c ≡ true → selects c ≡ true → IsKnown (s c)) → IsKnown (write_all t (made (net_work.process p) s) b)
  select_made p b s t z h w known = go (driver b h)
    where
      go : Driver b → IsKnown (write_all t (made (net_work.process p) s) b)
      go (of_input g i e m f) =
          let same = one_writer d names a p (length d.processes + i) b w (rw (input_is g i e f) m) in
          absurd (subst (λ (x : N.Process). Settles (kind x)) (ap net_work.process (sym same) ∙ input_is g i e f) z)
      go (of_port g u q m k) =
          let at = process_there d (clock_bits a.clocks) q.number (Continuous q.place InputPort q.target_place (Whole g) q.e) q.is in
          let same = one_writer d names a p q.number b w (rw at m) in
          let here : net_work.process p ≡ process_of d (clock_bits a.clocks) (Continuous q.place InputPort q.target_place (Whole g) q.e) = ap net_work.process (sym same) ∙ at in
          let reads = name_facts q.e u q.named in
          let f = assign_facts d names a q.number q.place InputPort q.target_place (Whole g) q.e q.is in
          let in_set = assign_made (Whole g) q.e (λ c. known_set) s t b f.constant f.fit_target f.fit_value
          (λ c r. known_has (s c) (known c (rw here r) (k c (subst (λ xs. contains xs c ≡ true) reads.reads_is r)))) m in
          subst (λ (x : N.Process). IsKnown (write_all t (made x s) b)) (sym here) (known_set_is (assign_sets (Whole g) q.e (λ c. known_set) b) (write_all t (assignment_writes (Whole g) q.e s) b) (port_known g u q.e (λ c. known_set) b q.named q.long (λ c r. refl) m) in_set)
        where
          known_has : (v : Bit4) → IsKnown v → has known_set v ≡ true
          known_has v (inl e) = subst (λ x. has known_set x ≡ true) (sym e) refl
          known_has v (inr e) = subst (λ x. has known_set x ≡ true) (sym e) refl

  -- ---- selectors

  -- the block whose selector it is
  record AtBlock (p b : ℕ) : Type 0 where
    place : ℕ
    star : Bool
    events : List Event
    statement : Statement
    is : slice_get d.processes p ≡ Some (Always place star events statement)
    settles : is_clocked (Always place star events statement) ≡ false
    facts : SelectorFacts d names a (Always place star events statement) statement b
    lenient : is_lenient statement ≡ true

  at_block : (p b : ℕ) → contains (selectors_at d p) b ≡ true → AtBlock p b
  at_block p b h = go (slice_get d.processes p) refl h
    where
      go : (o : Option Process) → slice_get d.processes p ≡ o → contains (selectors_of d o) b ≡ true → AtBlock p b
      go None e k = cc
      go (Some (Continuous place port target_place target f)) e k = cc
      go (Some (Always place star events st)) e k = by_clock (is_clocked (Always place star events st)) refl
        where
          by_clock : (c : Bool) → is_clocked (Always place star events st) ≡ c → AtBlock p b
          by_clock true q = absurd (either_way (contains [] b) (subst (λ (c : Bool). contains (if not c && is_lenient st then Rattle.vs_design.specs.Selects.selector_bits d st else []) b ≡ true) q k) refl)
          by_clock false q = by_lenient (is_lenient st) refl
            where
              by_lenient : (c : Bool) → is_lenient st ≡ c → AtBlock p b
              by_lenient true m = record { place = place; star = star; events = events; statement = st; is = e; settles = q; facts = selector_facts d names a p place star events st e q b h; lenient = m }
              by_lenient false m = absurd (either_way (contains (if not (is_clocked (Always place star events st)) && false then Rattle.vs_design.specs.Selects.selector_bits d st else []) b) (subst (λ (c : Bool). contains (if not (is_clocked (Always place star events st)) && c then Rattle.vs_design.specs.Selects.selector_bits d st else []) b ≡ true) m k) (none (not (is_clocked (Always place star events st)))))
                where
                  none : (c : Bool) → contains (if c && false then Rattle.vs_design.specs.Selects.selector_bits d st else []) b ≡ false
                  none true = refl
                  none false = refl

  block_there : (p b : ℕ) (k : AtBlock p b) → net_work.process p ≡ N.Comb (contains (waits_of (Always k.place k.star k.events k.statement))) (contains (statement_bits k.statement)) (body k.statement)
  block_there p b k = process_there d (clock_bits a.clocks) p (Always k.place k.star k.events k.statement) k.is ∙ ap {B = N.Process} (λ c. block_process d (clock_bits a.clocks) c (Always k.place k.star k.events k.statement) k.events k.statement) k.settles

  -- it doesn't sleep
  awake_block : (p b : ℕ) (k : AtBlock p b) → is_sleeping d (Always k.place k.star k.events k.statement) ≡ false
  awake_block p b k = by_test (is_sleeping d x) (λ e. absurd (asleep e)) (λ e. e)
    where
      x : Process
      x = Always k.place k.star k.events k.statement

      asleep : is_sleeping d x ≡ true → ⊥
      asleep e =
          let m = and_both (Rattle.vs_design.specs.Designs.is_combinational x && list_all (Rattle.vs_design.specs.Sleepers.is_still d) (waits_of x)) (not (Rattle.vs_design.specs.Sleepers.stays_x k.statement)) e in
          let n = and_both (Rattle.vs_design.specs.Designs.is_combinational x) (list_all (Rattle.vs_design.specs.Sleepers.is_still d) (waits_of x)) m.0 in
          rooted_apart d a.lawful k.facts.bit.signal k.facts.bit.root b k.facts.bit.there k.facts.bit.rooted k.facts.bit.has_it (still_variable d names a b (all_of_bits (Rattle.vs_design.specs.Sleepers.is_still d) (waits_of x) b n.1 k.facts.waits))

  -- its root is an input of the top
  root_input : (s r : Signal) → IsAt d a.lawful s → select_root d s ≡ Some r → IsAt d a.lawful r × (r.input ≡ true)
  root_input s r h k = by_root d a.lawful (λ z. IsAt d a.lawful r × (r.input ≡ true)) r (λ z m i e. (subst (IsAt d a.lawful) e m, subst (λ (y : Signal). y.input ≡ true) e i)) (λ z u m p q. q) (length d.processes) s h k

  -- and not a clock, which no block reads
  not_clock : (p b : ℕ) (k : AtBlock p b) → contains (clock_bits a.clocks) k.facts.bit.root.first ≡ false
  not_clock p b k = by_test (contains (clock_bits a.clocks) k.facts.bit.root.first) (λ e. absurd (is_clock e)) (λ e. e)
    where
      is_clock : contains (clock_bits a.clocks) k.facts.bit.root.first ≡ true → ⊥
      is_clock e =
          let x = k.facts.bit in
          let i = root_input x.signal x.root x.there x.rooted in
          let at = in_filter (λ z. z.input) d.signals x.root.number x.root i.0 i.1 in
          let same = clock_signal d names a at.0 x.root x.root.first e at.1 (first_bit x.root) in
          let n = clock_rooted d a.lawful (clock_bits a.clocks) x.signal x.root x.there x.rooted e same.1 in
          let b_is = one_listed x.signal.first b (subst (λ m. contains (Rattle.vs_design.specs.Values.count_from x.signal.first m) b ≡ true) n.1 x.has_it) in
          let unheard = comb_nets d names a p b (rw (block_there p b k) refl) (subst (λ m. contains (Rattle.vs_design.specs.Clocks.clock_nets d (clock_bits a.clocks)) m ≡ true) (sym b_is) n.0) in
          either_way (listens (net_work.process p) b) (rw (block_there p b k) k.facts.waits) unheard

  pub selector_is : (p b : ℕ) → contains (selectors_at d p) b ≡ true → (kind (net_work.process p) ≡ AComb) × (sleeper_at d p ≡ None) × (listens (net_work.process p) b ≡ true) × (selects b ≡ true)
  selector_is p b h =
      let k = at_block p b h in
      let x = k.facts.bit in (
        rw (block_there p b k) refl,
        rw k.is (ap (λ c. sleeper_if c (Always k.place k.star k.events k.statement)) (awake_block p b k)),
        rw (block_there p b k) k.facts.waits,
        filtered_bits (λ z. is_data (root_numbers d) (clock_bits a.clocks) (select_root d z)) d.signals x.signal.number x.signal b x.there
            (ap (is_data (root_numbers d) (clock_bits a.clocks)) x.rooted ∙ and_true (contains (root_numbers d) x.root.number) (not (contains (clock_bits a.clocks) x.root.first)) x.listed (ap not (not_clock p b k))) x.has_it,
      )

  -- ---- their sets

  pub late_known : (p b : ℕ) (v : Bit4) → contains (selectors_at d p) b ≡ true → has (sets.late b) v ≡ true → IsKnown v
  late_known p b v h m = let x = (at_block p b h).facts.bit in known_set_is (sets.late b) v (late_root d names a x.signal x.root x.there x.rooted b x.has_it) m

  -- early, a block with selectors has any values
  pub early_any : (p b c : ℕ) (v : Bit4) → contains (selectors_at d p) c ≡ true → writes (net_work.process p) b ≡ true → has (sets.early b) v ≡ true
  early_any p b c v h w =
      let k = at_block p c h in
      let i : IsBlock d p k.statement = record { place = k.place; star = k.star; events = k.events; is = k.is; combinational = k.settles } in
      subst (λ (x : Set4). has x v ≡ true) (sym (solution.lenient p k.statement i (awake_block p c k) k.lenient b (subst (λ (y : N.Process). writes y b ≡ true) (block_there p c k) w))) (any_has v)
    where
      any_has : (v : Bit4) → has any_value v ≡ true
      any_has Zero = refl
      any_has Rattle.vs_four.specs.declared.Bit4.TheVariants.One = refl
      any_has Rattle.vs_four.specs.declared.Bit4.TheVariants.X = refl
      any_has Rattle.vs_four.specs.declared.Bit4.TheVariants.Z = refl

  -- an input that is a select net is a select input
  pub select_input : (p b : ℕ) → kind (net_work.process p) ≡ AnInput → writes (net_work.process p) b ≡ true → selects b ≡ true → contains (signals_bits (data_selects d (clock_bits a.clocks))) b ≡ true
  select_input p b n w h = go (root_view d a.lawful s.signal s.root s.there s.rooted)
    where
      s : SelectAt b
      s = select_at b h

      go : ((s.signal.input ≡ true) × (s.signal ≡ s.root)) ⊎ ((u : Signal) × PortTo d a.lawful s.signal u × (select_root d u ≡ Some s.root)) → contains (signals_bits (data_selects d (clock_bits a.clocks))) b ≡ true
      go (inl x) =
          let i = in_filter (λ z. z.input) d.signals s.signal.number s.signal s.there x.0 in
          let j = in_filter (λ z. contains (root_numbers d) z.number) (top_inputs d) i.0 s.signal i.1 (ap (λ (z : Signal). contains (root_numbers d) z.number) x.1 ∙ s.listed) in
          filtered_bits (λ z. not (contains (clock_bits a.clocks) z.first)) (select_inputs d) j.0 s.signal b j.1 (ap (λ (z : Signal). not (contains (clock_bits a.clocks) z.first)) x.1 ∙ ap not s.is_input) s.has_it
      go (inr x) =
          let q = x.1 in
          let at = process_there d (clock_bits a.clocks) q.number (Continuous q.place InputPort q.target_place (Whole s.signal) q.e) q.is in
          let same = one_writer d names a p q.number b w (rw at s.has_it) in
          absurd (two_kinds (kind (net_work.process q.number)) (ap kind at) (subst (λ m. kind (net_work.process m) ≡ AnInput) (sym same) n))
        where
          two_kinds : (k : Kind) → k ≡ N.AnAssign → k ≡ AnInput → ⊥
          two_kinds k e f = cc
