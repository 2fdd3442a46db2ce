-- The sets A and E of an accepted design, and the rule of time zero.
use Rattle.std.proofs.Common.{◌≡◌, ℕ, zero, suc, ◌+◌, Bool, true, false, List, [], ◌∷◌, ◌++◌, ◌||◌, ◌&&◌, eqb-true, eq-eqb, not, if◌then◌else◌, ◌⊎◌, inl, inr, refl, sym, ap, ◌∙◌, subst, length, Option, Some, None, arith, ◌≤◌, ◌<◌, nat_lt}
use Rattle.std.specs.Prelude.{slice_get, nat_le}
use Rattle.vs_four.specs.declared.Bit4.{Bit4}
use Rattle.vs_four.specs.Tables.{same}
use Rattle.vs_four.specs.declared.Bit4.TheVariants.{Zero, One, X, Z}
use Rattle.vs_net.specs.Network.{State, Effect, write_all, is_written, flatten, Network, Kind, AnInput, TheClock, AnAssign, AComb, AClocked, kind, writes, listens, made}
use Rattle.vs_net.specs.Network as N
use Rattle.vs_net.specs.Lawful.{Settles, ReadsIn, WritesIn, IsKnown, IsQuietBlock, IsWokenBlock}
use Rattle.vs_design.specs.Expressions.{Signal, signal_length}
use Rattle.vs_design.specs.Values.{count_from, bits_of_signal}
use Rattle.vs_design.specs.Statements.{Whole, Statement}
use Rattle.vs_design.specs.Bodies.{assignment_writes, body}
use Rattle.vs_design.specs.Designs.{Event, InputPort, Process, Continuous, Always, is_clocked, Design, top_inputs, bit_count}
use Rattle.vs_design.specs.Footprints.{contains, read_bits, target_reads, statement_reads, statement_bits, writes_of, reads_of, waits_of, input_bits, is_input}
use Rattle.vs_design.specs.Levels.{level_order}
use Rattle.vs_design.specs.Sets.{Set4, has, only, known_set, any_value, union, is_only_x, is_unknown_set, is_known_set}
use Rattle.vs_design.specs.Lifted.{Family}
use Rattle.vs_design.specs.Clocks.{clock_bits, own_clocks}
use Rattle.vs_design.specs.Resets.{reset_of, with_reset, with_resets}
use Rattle.vs_net.proofs.Basics.{write_all_covered, write_all_other}
use Rattle.vs_net.proofs.Nets.{reset_clocked}
use Rattle.vs_design.specs.Sleepers.{is_sleeping, sleeper_at}
use Rattle.vs_design.specs.TimeZero.{Families, families, early_source, late_source, block_sets, early_end, late_end, is_quiet, wakes, is_uncertain}
use Rattle.vs_design.specs.Initials.{first_value, start_value}
use Rattle.vs_design.specs.Latches.{latch_bits}
use Rattle.vs_design.specs.Selects.{is_lenient, meant, is_lenient_block, select_root}
use Rattle.vs_design.specs.Equations.{IsSource, IsOrderly, IsSolved}
use Rattle.vs_design.specs.Networks.{network_of, process_of, block_process}
use Rattle.vs_design.specs.Accepted.{IsAcceptedDesign}
use Rattle.vs_design.proofs.Lists.{by_test, and_both, or_left, or_right, contains-left, contains-right, contains_filter}
use Rattle.vs_design.proofs.Writes.{either_way}
use Rattle.vs_design.proofs.SetBits.{union_left, union_right}
use Rattle.vs_design.proofs.Signals.{one_signal, member_bits}
use Rattle.vs_design.proofs.Parts.{by_kind, process_there, writer_there, none_at}
use Rattle.vs_design.proofs.LawfulParts.{one_writer, first_bit, kind_below, process_not_input}
use Rattle.vs_design.proofs.Facts.{assign_facts, block_facts, comb_facts}
use Rattle.vs_design.proofs.ClockNets.{ClockAt, of_input, of_spare, clocks_at, clock_at, inside, clock_process, one_listed}
use Rattle.vs_design.proofs.ClockLaws.{clock_is}
use Rattle.vs_design.proofs.SleepLaws.{awake_at, AsleepFacts, asleep_facts, process_is}
use Rattle.vs_design.proofs.Named.{bits_of_design}
use Rattle.vs_design.proofs.Formed.{filtered_bits}
use Rattle.vs_design.proofs.Meant.{meant_plain, meant_fits, meant_bits}
use Rattle.vs_design.proofs.SelectNets.{IsAt, by_root}
use Rattle.vs_design.proofs.Surely.{selector_facts, same_run}
use Rattle.vs_design.proofs.PortSets.{port_known}
use Rattle.vs_design.proofs.Solved.{solved}
use Rattle.vs_design.proofs.Along.{SameAt, Found, found, unwritten, assign_made, block_made}
use Rattle.vs_design.proofs.TimeBits.{only_x_is, only_x_has, unknown_set, known_set_is, all_of_bits, any_bit, signal_with, some_is}

module _ (d : Design) (names : List (List ℕ)) (a : IsAcceptedDesign d names) where
  abbrev pub sets : Families
  sets = families d (clock_bits a.clocks) (level_order d)

  abbrev net_work : Network
  net_work = network_of d (clock_bits a.clocks)

  found_at : (p : ℕ) (x : Process) → slice_get d.processes p ≡ Some x → is_clocked x ≡ false → Found d sets x
  found_at p x h k = found d (level_order d) [] (record { early = early_source d; late = late_source d (clock_bits a.clocks) }) p x a.one_driver a.no_cycle h k refl

  -- the network's process of a number
  settling : (r : ℕ) (x : Process) (b : ℕ) → slice_get d.processes r ≡ Some x → is_clocked x ≡ false → contains (writes_of x) b ≡ true → (writes (net_work.process r) b ≡ true) × Settles (kind (net_work.process r))
  settling r x b h k w = subst (λ y. (writes y b ≡ true) × Settles (kind y)) (sym (process_there d (clock_bits a.clocks) r x h)) (go x k w)
    where
      go : (x : Process) → is_clocked x ≡ false → contains (writes_of x) b ≡ true → (writes (process_of d (clock_bits a.clocks) x) b ≡ true) × Settles (kind (process_of d (clock_bits a.clocks) x))
      go (Continuous place port target_place target e) k w = (w, tt)
      go (Always place star events st) k w = subst (λ c. (writes (block_process d (clock_bits a.clocks) c (Always place star events st) events st) b ≡ true) × Settles (kind (block_process d (clock_bits a.clocks) c (Always place star events st) events st))) (sym k) (w, tt)

  -- a combinational block is lenient where its statement is
  lenient_is : (place : ℕ) (star : Bool) (events : List Event) (st : Statement) → is_clocked (Always place star events st) ≡ false → is_lenient_block (Always place star events st) ≡ is_lenient st
  lenient_is place star events st k = ap (λ c. not c && is_lenient st) k

  -- a bit that no settling process writes has its first sets
  first_sets : (b : ℕ) → ((p : ℕ) → writes (net_work.process p) b ≡ true → Settles (kind (net_work.process p)) → ⊥) → SameAt sets (record { early = early_source d; late = late_source d (clock_bits a.clocks) }) b
  first_sets b h = unwritten d (level_order d) (record { early = early_source d; late = late_source d (clock_bits a.clocks) }) b a.no_cycle (λ r x e k. by_test (contains (writes_of x) b) (λ w. let q = settling r x b e k w in absurd (h r q.0 q.1)) (λ w. w))

  -- a value is in the set of it alone
  only_has : (v : Bit4) → has (only v) v ≡ true
  only_has Zero = refl
  only_has One = refl
  only_has X = refl
  only_has Z = refl

  pub early_idle : (b : ℕ) → ((p : ℕ) → writes (net_work.process p) b ≡ true → Settles (kind (net_work.process p)) → ⊥) → has (sets.early b) (first_value d b) ≡ true
  early_idle b h = subst (λ s. has s (first_value d b) ≡ true) (sym (first_sets b h).0) (only_has (first_value d b))

  pub early_comb : (p b : ℕ) → kind (net_work.process p) ≡ AComb → writes (net_work.process p) b ≡ true → has (sets.early b) X ≡ true
  early_comb p b = by_kind d (clock_bits a.clocks) (λ p x. kind x ≡ AComb → writes x b ≡ true → has (sets.early b) X ≡ true) (record {
    assigns = λ p place port target_place target e h w z. cc;
    combs = λ p place star events st h k w z. let g = found_at p (Always place star events st) h k in subst (λ s. has s X ≡ true) (sym (g.own b z).0) (end (is_sleeping d (Always place star events st)) (is_lenient_block (Always place star events st)) (meant d st) g.then_.early b (meant_bits d st b ∙ z));
    clocked = λ p place star events st h k w z. cc;
    inputs = λ p i r l e f w z. cc;
    clock = λ p i r l e f w z. cc;
    spare = λ p i m l f named past w z. cc;
    keeper = λ p l m bs e w z. cc;
    none = λ p w z. cc;
  }) p
    where
      end : (asleep lenient : Bool) (st : Statement) (f : Family) (b : ℕ) → contains (statement_bits st) b ≡ true → has (early_end (contains (statement_bits st) b) asleep lenient (is_quiet st f) (block_sets st f b) (f b)) X ≡ true
      end true lenient st f b w = rw w refl
      end false true st f b w = rw w refl
      end false false st f b w =
          by_test (is_quiet st f)
          (λ q. rw (w, q) (only_x_has (block_sets st f b) (all_of_bits (λ b. is_only_x (block_sets st f b)) (statement_bits st) b q w)))
          (λ q. rw (w, q) (union_left (only X) (block_sets st f b) X refl))

  pub early_made : (p : ℕ) → Settles (kind (net_work.process p)) → sleeper_at d p ≡ None → (s : State) → ReadsIn (λ b. has (sets.early b)) (net_work.process p) s → WritesIn (λ b. has (sets.early b)) (net_work.process p) s
  early_made p z n s = by_kind d (clock_bits a.clocks) (λ p x. Settles (kind x) → sleeper_at d p ≡ None → ReadsIn (λ b. has (sets.early b)) x s → WritesIn (λ b. has (sets.early b)) x s) (record {
    assigns = λ p place port target_place target e h z n r b w t.
        let g = found_at p (Continuous place port target_place target e) h refl in
        let f = assign_facts d names a p place port target_place target e h in
        subst (λ x. has x (write_all t (assignment_writes target e s) b) ≡ true) (sym (g.own b w).0)
        (assign_made target e g.then_.early s t b f.constant f.fit_target f.fit_value
        (λ c k. subst (λ x. has x (s c) ≡ true) (g.same c (contains-left (target_reads target ++ read_bits e) [] c (contains-right (target_reads target) (read_bits e) c k))).0 (r c (contains-right (target_reads target) (read_bits e) c k))) w);
    combs = λ p place star events st h k z n r b w t.
        let g = found_at p (Always place star events st) h k in
        let f = comb_facts d names a p place star events st h k in
        let own_bit = meant_bits d st b ∙ w in
        let awake = awake_at d p (Always place star events st) h n in
        let in_block : has (block_sets (meant d st) g.then_.early b) (write_all t (body (meant d st) s).writes b) ≡ true = block_made (meant d st) g.then_.early s t b (meant_fits d st (block_facts d names a p place star events st h).fit) f.meant_unmixed f.no_latch
        (λ c q. subst (λ x. has x (s c) ≡ true) (g.same c (contains-right (reads_of (Always place star events st)) (waits_of (Always place star events st)) c (f.meant_waits c q))).0 (r c (f.meant_waits c q))) own_bit in
        subst (λ x. has x (write_all t (body st s).writes b) ≡ true) (sym (g.own b w).0) (by_test (is_lenient st)
        (λ e. any_own (is_sleeping d (Always place star events st)) (is_lenient_block (Always place star events st)) (meant d st) g.then_.early b (write_all t (body st s).writes b) awake (lenient_is place star events st k ∙ e) own_bit)
        (λ e. own (is_sleeping d (Always place star events st)) (is_lenient_block (Always place star events st)) (meant d st) g.then_.early b (write_all t (body st s).writes b) awake (lenient_is place star events st k ∙ e) own_bit
        (wider (is_quiet (meant d st) g.then_.early) (block_sets (meant d st) g.then_.early b) (write_all t (body st s).writes b) (subst (λ (x : Statement). has (block_sets (meant d st) g.then_.early b) (write_all t (body x s).writes b) ≡ true) (meant_plain d st e) in_block))));
    clocked = λ p place star events st h k z n. absurd z;
    inputs = λ p i r l e f z n. absurd z;
    clock = λ p i r l e f z n. absurd z;
    spare = λ p i m l f named past z n. absurd z;
    keeper = λ p l m bs e z n. absurd z;
    none = λ p z n. absurd z;
  }) p z n
    where
      own : (asleep lenient : Bool) (st : Statement) (f : Family) (b : ℕ) (v : Bit4) → asleep ≡ false → lenient ≡ false → contains (statement_bits st) b ≡ true → has (if is_quiet st f then block_sets st f b else union (only X) (block_sets st f b)) v ≡ true
          → has (early_end (contains (statement_bits st) b) asleep lenient (is_quiet st f) (block_sets st f b) (f b)) v ≡ true
      own asleep lenient st f b v n l w h = rw (n, l, w) h

      any_has : (v : Bit4) → has any_value v ≡ true
      any_has Zero = refl
      any_has One = refl
      any_has X = refl
      any_has Z = refl

      -- a lenient block's bits have any value
      any_own : (asleep lenient : Bool) (st : Statement) (f : Family) (b : ℕ) (v : Bit4) → asleep ≡ false → lenient ≡ true → contains (statement_bits st) b ≡ true → has (early_end (contains (statement_bits st) b) asleep lenient (is_quiet st f) (block_sets st f b) (f b)) v ≡ true
      any_own asleep lenient st f b v n l w = rw (n, l, w) (any_has v)

      wider : (q : Bool) (x : Set4) (v : Bit4) → has x v ≡ true → has (if q then x else union (only X) x) v ≡ true
      wider true x v h = h
      wider false x v h = union_right (only X) x v h

  -- late, each select net has 0 or 1
  pub late_root : (s r : Signal) → IsAt d a.lawful s → select_root d s ≡ Some r → (b : ℕ) → contains (bits_of_signal s) b ≡ true → is_known_set (sets.late b) ≡ true
  late_root s r h k = by_root d a.lawful (λ s. (b : ℕ) → contains (bits_of_signal s) b ≡ true → is_known_set (sets.late b) ≡ true) r
      (λ s h i e b m. of_input b (filtered_bits is_input d.signals s.number s b h i m))
      (λ s u h p q b m. subst (λ (x : Set4). is_known_set x ≡ true) (sym (solution.assign p.number p.place InputPort p.target_place (Whole s) p.e p.is b m).1) (port_known s u p.e sets.late b p.named p.long q m))
      (length d.processes) s h k
    where
      orderly : IsOrderly d
      orderly = record { lawful = a.lawful; unmixed = a.unmixed; no_latch = a.no_latch; one_driver = a.one_driver }

      solution : IsSolved d (clock_bits a.clocks) sets
      solution = solved d orderly (clock_bits a.clocks) (level_order d) a.no_cycle

      source : (b : ℕ) → contains (input_bits d) b ≡ true → IsSource d b
      source b i p x e c = by_test (contains (writes_of x) b) (λ w. absurd (process_not_input d names a (clock_bits a.clocks) p b x e w i)) (λ w. w)

      of_input : (b : ℕ) → contains (input_bits d) b ≡ true → is_known_set (sets.late b) ≡ true
      of_input b i = subst (λ (x : Set4). is_known_set x ≡ true) (sym (solution.source b (source b i)).1) (by_test (contains (own_clocks d (clock_bits a.clocks)) b) (λ e. rw e refl) (λ e. rw (e, i) refl))

  pub late_made : (p : ℕ) → Settles (kind (net_work.process p)) → (s : State) → ReadsIn (λ b. has (sets.late b)) (net_work.process p) s → WritesIn (λ b. has (sets.late b)) (net_work.process p) s
  late_made p z s = by_kind d (clock_bits a.clocks) (λ p x. Settles (kind x) → ReadsIn (λ b. has (sets.late b)) x s → WritesIn (λ b. has (sets.late b)) x s) (record {
    assigns = λ p place port target_place target e h z r b w t.
        let g = found_at p (Continuous place port target_place target e) h refl in
        let f = assign_facts d names a p place port target_place target e h in
        subst (λ x. has x (write_all t (assignment_writes target e s) b) ≡ true) (sym (g.own b w).1)
        (assign_made target e g.then_.late s t b f.constant f.fit_target f.fit_value
        (λ c k. subst (λ x. has x (s c) ≡ true) (g.same c (contains-left (target_reads target ++ read_bits e) [] c (contains-right (target_reads target) (read_bits e) c k))).1 (r c (contains-right (target_reads target) (read_bits e) c k))) w);
    combs = λ p place star events st h k z r b w t.
        let g = found_at p (Always place star events st) h k in
        let f = comb_facts d names a p place star events st h k in
        let own_bit = meant_bits d st b ∙ w in
        let in_block : has (block_sets (meant d st) g.then_.late b) (write_all t (body (meant d st) s).writes b) ≡ true = block_made (meant d st) g.then_.late s t b (meant_fits d st (block_facts d names a p place star events st h).fit) f.meant_unmixed f.no_latch
        (λ c q. subst (λ x. has x (s c) ≡ true) (g.same c (contains-right (reads_of (Always place star events st)) (waits_of (Always place star events st)) c (f.meant_waits c q))).1 (r c (f.meant_waits c q))) own_bit in
        let run = same_run d names a p place star events st h k s (λ c q. let x = selector_facts d names a p place star events st h k c q in
        known_set_is (sets.late c) (s c) (late_root x.bit.signal x.bit.root x.bit.there x.bit.rooted c x.bit.has_it) (r c x.waits)) in
        subst (λ x. has x (write_all t (body st s).writes b) ≡ true) (sym (g.own b w).1) (end (is_sleeping d (Always place star events st)) (meant d st) g.then_.late b (write_all t (body st s).writes b) own_bit (subst (λ (x : Effect). has (block_sets (meant d st) g.then_.late b) (write_all t x.writes b) ≡ true) run in_block));
    clocked = λ p place star events st h k z. absurd z;
    inputs = λ p i r l e f z. absurd z;
    clock = λ p i r l e f z. absurd z;
    spare = λ p i m l f named past z. absurd z;
    keeper = λ p l m bs e z. absurd z;
    none = λ p z. absurd z;
  }) p z
    where
      end : (asleep : Bool) (st : Statement) (f : Family) (b : ℕ) (v : Bit4) → contains (statement_bits st) b ≡ true → has (block_sets st f b) v ≡ true → has (late_end (contains (statement_bits st) b) asleep (block_sets st f b) (f b)) v ≡ true
      end true st f b v w h = rw w (union_right (only X) (block_sets st f b) v h)
      end false st f b v w h = rw w h

  -- a sleeping block's bits may be x late
  pub late_asleep : (p b : ℕ) (x : N.Sleeper) → sleeper_at d p ≡ Some x → writes (net_work.process p) b ≡ true → has (sets.late b) X ≡ true
  late_asleep p b x n w =
      let g = found_at p (Always f.place f.star f.events f.statement) f.at f.settles in
      subst (λ s. has s X ≡ true) (sym (g.own b own).1) (end (is_sleeping d (Always f.place f.star f.events f.statement)) (meant d f.statement) g.then_.late b f.sleeps (meant_bits d f.statement b ∙ own))
    where
      f : AsleepFacts d p x
      f = asleep_facts d p x n

      own : contains (statement_bits f.statement) b ≡ true
      own = subst (λ y. writes y b ≡ true) (process_is d names a p x f) w

      end : (asleep : Bool) (st : Statement) (f : Family) (b : ℕ) → asleep ≡ true → contains (statement_bits st) b ≡ true → has (late_end (contains (statement_bits st) b) asleep (block_sets st f b) (f b)) X ≡ true
      end asleep st f b n w = rw (n, w) (union_left (only X) (block_sets st f b) X refl)

  -- an input that has a clock's bit is that clock, of one bit
  pub clock_signal : (i : ℕ) (s : Signal) (b : ℕ) → contains (clock_bits a.clocks) b ≡ true → slice_get (top_inputs d) i ≡ Some s → contains (bits_of_signal s) b ≡ true → (s.first ≡ b) × (signal_length s ≡ 1)
  clock_signal i s b c e h = by_place (clock_at d a.clocks (clocks_at d names a) b c)
    where
      by_place : ClockAt d b → (s.first ≡ b) × (signal_length s ≡ 1)
      by_place (of_input j t at long is) =
          let k = one_signal (λ s. s.input) 0 d.signals b i j s t a.lawful.bits_numbered e at h (subst (λ m. contains (bits_of_signal t) m ≡ true) is (first_bit t)) in
          let same : s ≡ t = some_is s t (sym e ∙ subst (λ m. slice_get (top_inputs d) m ≡ Some t) (sym k) at) in
          (ap (λ (x : Signal). x.first) same ∙ is, ap signal_length same ∙ long)
      by_place (of_spare q) =
          let k = kind_below d names a (clock_bits a.clocks) is_input b (member_bits (top_inputs d) i s b e h) in absurd (omega (arith, k, q))

  unsettled : (p b : ℕ) → writes (net_work.process p) b ≡ true → (Settles (kind (net_work.process p)) → ⊥) → (q : ℕ) → writes (net_work.process q) b ≡ true → Settles (kind (net_work.process q)) → ⊥
  unsettled p b w n q v s = n (subst (λ m. Settles (kind (net_work.process m))) (one_writer d names a p q b w v) s)

  -- an input's bit has what its set says, and a bit beyond the design, as a clock may be that the design doesn't have, may be 0
  abbrev pub late_or_spare : ℕ → Bit4 → Bool
  late_or_spare b v = has (sets.late b) v || (nat_le (bit_count d) b && same v Zero)

  -- what a process listens to is a bit of the design
  pub listened_below : (p b : ℕ) → listens (net_work.process p) b ≡ true → b < bit_count d
  listened_below p b = by_kind d (clock_bits a.clocks) (λ p x. listens x b ≡ true → b < bit_count d) (record {
    assigns = λ p place port target_place target e h l. bits_of_design d a.lawful p (Continuous place port target_place target e) h b (contains-left (target_reads target ++ read_bits e) _ b l);
    combs = λ p place star events st h k l. bits_of_design d a.lawful p (Always place star events st) h b (contains-right (statement_reads st) (statement_bits st ++ waits_of (Always place star events st)) b (contains-right (statement_bits st) (waits_of (Always place star events st)) b l));
    clocked = λ p place star events st h k l. absurd (either_way false l refl);
    inputs = λ p i s l e f g. absurd (either_way false g refl);
    clock = λ p i s l e f g. absurd (either_way false g refl);
    spare = λ p i m l f named past g. absurd (either_way false g refl);
    keeper = λ p l m bs e g. absurd (either_way false g refl);
    none = λ p l. absurd (either_way false l refl);
  }) p

  pub late_of_listened : (p b : ℕ) (v : Bit4) → listens (net_work.process p) b ≡ true → late_or_spare b v ≡ true → has (sets.late b) v ≡ true
  late_of_listened p b v l h = go (has (sets.late b) v) (nat_le (bit_count d) b) (same v Zero) (above (bit_count d) b (listened_below p b l)) h
    where
      above : (m n : ℕ) → n < m → nat_le m n ≡ false
      above m n h = grind arith

      go : (x y z : Bool) → y ≡ false → (x || (y && z)) ≡ true → x ≡ true
      go true y z e h = refl
      go false true z e h = cc
      go false false z e h = cc

  pub late_clock : (p b : ℕ) → kind (net_work.process p) ≡ TheClock → writes (net_work.process p) b ≡ true → late_or_spare b Zero ≡ true
  late_clock p b h w =
      elim (inside d names a b (is_clock p h w)) [
        | inl i ↦ or_left (has (sets.late b) Zero) (nat_le (bit_count d) b && true)
            (subst (λ s. has s Zero ≡ true) (sym (first_sets b (unsettled p b w (λ s. settles_not (kind (net_work.process p)) h s))).1) (rw (own_is (is_clock p h w) (is_below b (bit_count d) (kind_below d names a (clock_bits a.clocks) is_input b i))) refl))
        | inr l ↦ or_right (has (sets.late b) Zero) (nat_le (bit_count d) b && true) (rw (is_most (bit_count d) b l) refl)
      ]
    where
      is_below : (m n : ℕ) → m < n → nat_lt m n ≡ true
      is_below m n h = grind arith

      is_most : (m n : ℕ) → m ≤ n → nat_le m n ≡ true
      is_most m n h = grind arith

      own_is : contains (clock_bits a.clocks) b ≡ true → nat_lt b (bit_count d) ≡ true → contains (own_clocks d (clock_bits a.clocks)) b ≡ true
      own_is c e = contains_filter (λ c. nat_lt c (bit_count d)) (clock_bits a.clocks) b ∙ rw (c, e) refl

      settles_not : (k : Kind) → k ≡ TheClock → Settles k → ⊥
      settles_not TheClock h s = s
      settles_not AnInput h s = s
      settles_not AnAssign h s = cc
      settles_not AComb h s = cc
      settles_not AClocked h s = s

      is_clock : (p : ℕ) → kind (net_work.process p) ≡ TheClock → writes (net_work.process p) b ≡ true → contains (clock_bits a.clocks) b ≡ true
      is_clock = by_kind d (clock_bits a.clocks) (λ p x. kind x ≡ TheClock → writes x b ≡ true → contains (clock_bits a.clocks) b ≡ true) (record {
        assigns = λ p place port target_place target e h w z. cc;
        combs = λ p place star events st h k w z. cc;
        clocked = λ p place star events st h k w z. cc;
        inputs = λ p i r l e f w z. cc;
        clock = λ p i r l e f w z. subst (λ n. contains (clock_bits a.clocks) n ≡ true) (sym (eqb-true b r.first z)) f;
        spare = λ p i m l f named past w z. subst (λ n. contains (clock_bits a.clocks) n ≡ true) (sym (eqb-true b m z)) named;
        keeper = λ p l m bs e w z. cc;
        none = λ p w z. cc;
      })

  not_own : (b : ℕ) → contains (clock_bits a.clocks) b ≡ false → contains (own_clocks d (clock_bits a.clocks)) b ≡ false
  not_own b e = contains_filter (λ c. nat_lt c (bit_count d)) (clock_bits a.clocks) b ∙ rw e refl

  -- the late sets of a bit that no settling process writes: a clock's, an input's, another's
  source_input : (b : ℕ) (v : Bit4) → contains (clock_bits a.clocks) b ≡ false → contains (input_bits d) b ≡ true → IsKnown v → has (late_source d (clock_bits a.clocks) b) v ≡ true
  source_input b v e h k = rw (not_own b e) (rw h (known v k))
    where
      known : (v : Bit4) → IsKnown v → has known_set v ≡ true
      known Zero k = refl
      known One k = refl
      known X (inl e) = cc
      known X (inr e) = cc
      known Z (inl e) = cc
      known Z (inr e) = cc

  -- a reset adds to the sets of a bit
  reset_keeps : (o : Option N.Reset) (b : ℕ) (s : Set4) (v : Bit4) → has s v ≡ true → has (with_reset o b s) v ≡ true
  reset_keeps None b s v h = h
  reset_keeps (Some r) b s v h = by_test (is_written (flatten (N.branch r)) b)
      (λ e. rw e (union_right (only (write_all (λ m. X) (flatten (N.branch r)) b)) s v h))
      (λ e. rw e h)

  resets_keep : (ps : List Process) (b : ℕ) (s : Set4) (v : Bit4) → has s v ≡ true → has (with_resets d (clock_bits a.clocks) ps b s) v ≡ true
  resets_keep [] b s v h = h
  resets_keep (x ∷ ps) b s v h = reset_keeps (reset_of d (clock_bits a.clocks) x) b (with_resets d (clock_bits a.clocks) ps b s) v (resets_keep ps b s v h)

  resets_have : (ps : List Process) (p : ℕ) (x : Process) (r : N.Reset) (b : ℕ) (s : Set4) → slice_get ps p ≡ Some x → reset_of d (clock_bits a.clocks) x ≡ Some r → is_written (flatten (N.branch r)) b ≡ true → has (with_resets d (clock_bits a.clocks) ps b s) (write_all (λ m. X) (flatten (N.branch r)) b) ≡ true
  resets_have [] p x r b s h e w = cc
  resets_have (y ∷ ps) zero x r b s h e w =
      let same : y ≡ x = cc in
      ap (λ z. has (with_reset (reset_of d (clock_bits a.clocks) z) b (with_resets d (clock_bits a.clocks) ps b s)) (write_all (λ m. X) (flatten (N.branch r)) b)) same
      ∙ ap (λ o. has (with_reset o b (with_resets d (clock_bits a.clocks) ps b s)) (write_all (λ m. X) (flatten (N.branch r)) b)) e
      ∙ rw w (union_left (only (write_all (λ m. X) (flatten (N.branch r)) b)) (with_resets d (clock_bits a.clocks) ps b s) (write_all (λ m. X) (flatten (N.branch r)) b) (only_has (write_all (λ m. X) (flatten (N.branch r)) b)))
  resets_have (y ∷ ps) (suc p) x r b s h e w = reset_keeps (reset_of d (clock_bits a.clocks) y) b (with_resets d (clock_bits a.clocks) ps b s) (write_all (λ m. X) (flatten (N.branch r)) b) (resets_have ps p x r b s h e w)

  source_other : (b : ℕ) → contains (clock_bits a.clocks) b ≡ false → contains (input_bits d) b ≡ false → has (late_source d (clock_bits a.clocks) b) (start_value d b) ≡ true
  source_other b e h = rw (not_own b e) (rw h (resets_keep d.processes b (only (start_value d b)) (start_value d b) (only_has (start_value d b))))

  pub late_input : (p b : ℕ) (v : Bit4) → kind (net_work.process p) ≡ AnInput → writes (net_work.process p) b ≡ true → IsKnown v → has (sets.late b) v ≡ true
  late_input p b v h w k = subst (λ s. has s v ≡ true) (sym (first_sets b (unsettled p b w (λ s. settles_not (kind (net_work.process p)) h s))).1) (is_input p h w)
    where
      settles_not : (k : Kind) → k ≡ AnInput → Settles k → ⊥
      settles_not TheClock h s = s
      settles_not AnInput h s = s
      settles_not AnAssign h s = cc
      settles_not AComb h s = cc
      settles_not AClocked h s = s

      is_input : (p : ℕ) → kind (net_work.process p) ≡ AnInput → writes (net_work.process p) b ≡ true → has (late_source d (clock_bits a.clocks) b) v ≡ true
      is_input = by_kind d (clock_bits a.clocks) (λ p x. kind x ≡ AnInput → writes x b ≡ true → has (late_source d (clock_bits a.clocks) b) v ≡ true) (record {
        assigns = λ p place port target_place target e h w z. cc;
        combs = λ p place star events st h k w z. cc;
        clocked = λ p place star events st h k w z. cc;
        inputs = λ p i s l e f w z.
            by_test (contains (clock_bits a.clocks) b)
            (λ q. absurd (either_way (contains (clock_bits a.clocks) s.first) (subst (λ n. contains (clock_bits a.clocks) n ≡ true) (sym (clock_signal i s b q e z).0) q) f))
            (λ q. source_input b v q (member_bits (top_inputs d) i s b e z) k);
        clock = λ p i r l e f w z. cc;
        spare = λ p i m l f named past w z. cc;
        keeper = λ p l m bs e w z. cc;
        none = λ p w z. cc;
      })

  -- the late sets of a bit that clocked blocks alone write
  late_register : (b : ℕ) → ((p : ℕ) → writes (net_work.process p) b ≡ true → kind (net_work.process p) ≡ AClocked) → (contains (clock_bits a.clocks) b ≡ false) × (contains (input_bits d) b ≡ false) × (sets.late b ≡ late_source d (clock_bits a.clocks) b)
  late_register b h =
      let not_clock : contains (clock_bits a.clocks) b ≡ false = by_test (contains (clock_bits a.clocks) b)
      (λ q. absurd (two_kinds (kind (net_work.process (clock_process d names a b q).0)) (clock_is d names a b q) (h (clock_process d names a b q).0 (clock_writes_it q))))
      (λ q. q) in (
        not_clock,
        by_test (contains (input_bits d) b) (λ i. absurd (an_input not_clock (signal_with (top_inputs d) b i))) (λ i. i),
        (first_sets b (λ p w s. clocked_not (kind (net_work.process p)) (h p w) s)).1,
      )
    where
      clocked_not : (k : Kind) → k ≡ AClocked → Settles k → ⊥
      clocked_not TheClock h s = s
      clocked_not AnInput h s = s
      clocked_not AnAssign h s = cc
      clocked_not AComb h s = cc
      clocked_not AClocked h s = s

      two_kinds : (k : Kind) → k ≡ TheClock → k ≡ AClocked → ⊥
      two_kinds k e f = cc

      input_kinds : (k : Kind) → k ≡ AnInput → k ≡ AClocked → ⊥
      input_kinds k e f = cc

      clock_writes_it : (q : contains (clock_bits a.clocks) b ≡ true) → writes (net_work.process (clock_process d names a b q).0) b ≡ true
      clock_writes_it q = subst (λ x. writes x b ≡ true) (sym (clock_process d names a b q).1) (eq-eqb b b refl)

      an_input : contains (clock_bits a.clocks) b ≡ false → (i : ℕ) × (s : Signal) × (slice_get (top_inputs d) i ≡ Some s) × (contains (bits_of_signal s) b ≡ true) → ⊥
      an_input q r =
          let at = writer_there d (clock_bits a.clocks) r.0 r.1 r.2 in
          by_test (contains (clock_bits a.clocks) r.1.first)
          (λ e.
          let k : b ≡ r.1.first = one_listed r.1.first b (subst (λ n. contains (count_from r.1.first n) b ≡ true) (clock_signal r.0 r.1 r.1.first e r.2 (first_bit r.1)).1 r.3) in
          either_way (contains (clock_bits a.clocks) b) (subst (λ n. contains (clock_bits a.clocks) n ≡ true) (sym k) e) q)
          (λ e.
          let here : net_work.process (length d.processes + r.0) ≡ N.Input (bits_of_signal r.1) = at ∙ rw e refl in
          input_kinds (kind (net_work.process (length d.processes + r.0))) (rw here refl) (h (length d.processes + r.0) (rw here r.3)))

  pub late_idle : (b : ℕ) → ((p : ℕ) → writes (net_work.process p) b ≡ true → kind (net_work.process p) ≡ AClocked) → has (sets.late b) (start_value d b) ≡ true
  late_idle b h = let r = late_register b h in subst (λ s. has s (start_value d b) ≡ true) (sym r.2) (source_other b r.0 r.1)

  -- what a reset gives a register last
  pub late_reset : (p b : ℕ) (r : N.Reset) → N.reset_of (net_work.process p) ≡ Some r → writes (net_work.process p) b ≡ true → has (sets.late b) (write_all (start_value d) (flatten (N.branch r)) b) ≡ true
  late_reset p b r e w =
      let clocked = reset_clocked (net_work.process p) r e in
      let only_clocked : (q : ℕ) → writes (net_work.process q) b ≡ true → kind (net_work.process q) ≡ AClocked = λ q v. subst (λ m. kind (net_work.process m) ≡ AClocked) (sym (one_writer d names a p q b w v)) clocked in
      let g = late_register b only_clocked in
      by_test (is_written (flatten (N.branch r)) b)
      (λ z. let m = has_reset p e in
      subst (λ s. has s (write_all (start_value d) (flatten (N.branch r)) b) ≡ true) (sym (g.2 ∙ (rw (not_own b g.0) (rw g.1 refl))))
      (subst (λ v. has (with_resets d (clock_bits a.clocks) d.processes b (only (start_value d b))) v ≡ true) (write_all_covered (flatten (N.branch r)) (λ m. X) (start_value d) b z)
      (resets_have d.processes p m.0 r b (only (start_value d b)) m.1 m.2 z)))
      (λ z. subst (λ v. has (sets.late b) v ≡ true) (sym (write_all_other (flatten (N.branch r)) (start_value d) b z)) (late_idle b only_clocked))
    where
      has_reset : (p : ℕ) → N.reset_of (net_work.process p) ≡ Some r → (x : Process) × (slice_get d.processes p ≡ Some x) × (reset_of d (clock_bits a.clocks) x ≡ Some r)
      has_reset = by_kind d (clock_bits a.clocks) (λ p y. N.reset_of y ≡ Some r → (x : Process) × (slice_get d.processes p ≡ Some x) × (reset_of d (clock_bits a.clocks) x ≡ Some r)) (record {
        assigns = λ p place port target_place target e h k. cc;
        combs = λ p place star events st h k l. cc;
        clocked = λ p place star events st h k l. (Always place star events st, h, l);
        inputs = λ p i s l e f k. cc;
        clock = λ p i s l e f k. cc;
        spare = λ p i m l f named past k. cc;
        keeper = λ p l m bs e k. cc;
        none = λ p k. cc;
      })

  pub quiet_or_woken : (p : ℕ) → kind (net_work.process p) ≡ AComb → sleeper_at d p ≡ None → IsQuietBlock (λ b. has (sets.early b)) (net_work.process p) ⊎ IsWokenBlock (λ b. has (sets.early b)) (λ b. has (sets.late b)) (net_work.process p)
  quiet_or_woken p = by_kind d (clock_bits a.clocks) (λ p x. kind x ≡ AComb → sleeper_at d p ≡ None → IsQuietBlock (λ b. has (sets.early b)) x ⊎ IsWokenBlock (λ b. has (sets.early b)) (λ b. has (sets.late b)) x) (record {
    assigns = λ p place port target_place target e h w n. cc;
    combs = λ p place star events st h k w n.
        by_test (not (is_lenient st) && is_quiet st sets.early)
        (λ q. let m = and_both (not (is_lenient st)) (is_quiet st sets.early) q in inl (λ s t r b z.
        let f = comb_facts d names a p place star events st h k in
        let plain = meant_plain d st (no_more (is_lenient st) m.0) in
        only_x_is (block_sets st sets.early b) (write_all t (body st s).writes b) (all_of_bits (λ b. is_only_x (block_sets st sets.early b)) (statement_bits st) b m.1 z)
        (block_made st sets.early s t b (block_facts d names a p place star events st h).fit f.unmixed (subst (λ (x : Statement). latch_bits x ≡ []) plain f.no_latch) (λ c u. r c (f.waits c u)) z)))
        (λ q. inr (woken p place star events st h k (awake_at d p (Always place star events st) h n) q));
    clocked = λ p place star events st h k w n. cc;
    inputs = λ p i r l e f w n. cc;
    clock = λ p i r l e f w n. cc;
    spare = λ p i m l f named past w n. cc;
    keeper = λ p l m bs e w n. cc;
    none = λ p w n. cc;
  }) p
    where
      no_more : (c : Bool) → not c ≡ true → c ≡ false
      no_more true h = cc
      no_more false h = refl

      woken : (p place : ℕ) (star : Bool) (events : List Event) (st : Statement) → slice_get d.processes p ≡ Some (Always place star events st) → is_clocked (Always place star events st) ≡ false → is_sleeping d (Always place star events st) ≡ false → (not (is_lenient st) && is_quiet st sets.early) ≡ false
          → IsWokenBlock (λ b. has (sets.early b)) (λ b. has (sets.late b)) (N.Comb (contains (waits_of (Always place star events st))) (contains (statement_bits st)) (body st))
      woken p place star events st h k n q =
          let s : (not (is_clocked (Always place star events st)) && not (is_sleeping d (Always place star events st)) && not (not (is_lenient st) && is_quiet st sets.early) && not (wakes sets (Always place star events st))) ≡ false = none_at (is_uncertain d sets) d.processes p (Always place star events st) a.awake h in
          let w : wakes sets (Always place star events st) ≡ true = awake (is_clocked (Always place star events st)) (is_sleeping d (Always place star events st)) (not (is_lenient st) && is_quiet st sets.early) (wakes sets (Always place star events st)) k n q s in
          let r = any_bit (λ b. is_unknown_set (sets.early b) && is_known_set (sets.late b)) (waits_of (Always place star events st)) w in
          let z = and_both (is_unknown_set (sets.early r.0)) (is_known_set (sets.late r.0)) r.2 in
          record { bit = r.0; listened = r.1; unknown = λ v. unknown_set (sets.early r.0) v z.0; known = λ v. known_set_is (sets.late r.0) v z.1 }
        where
          awake : (c n q w : Bool) → c ≡ false → n ≡ false → q ≡ false → (not c && not n && not q && not w) ≡ false → w ≡ true
          awake false false false true e m f g = refl
          awake false false false false e m f g = cc
          awake false false true w e m f g = cc
          awake false true q w e m f g = cc
          awake true n q w e m f g = cc
