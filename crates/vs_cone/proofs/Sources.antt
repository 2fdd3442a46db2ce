-- Bits of the design.
use Rattle.std.proofs.Common.{◌≡◌, ℕ, suc, ◌≤◌, ◌<◌, Bool, true, false, List, [], ◌∷◌, ◌++◌, ◌&&◌, ◌||◌, not, ◌==◌, if◌then◌else◌, nat_lt, ◌⊎◌, map, Option, Some, None, sym, ap, ◌∙◌, subst, refl, eqb-true, eq-eqb, arith, inl, inr, slice_get, length}
use Rattle.std.specs.Prelude.{find}
use Rattle.std.specs.List.{filter}
use Rattle.std.proofs.lemmas.Bool.{and_parts}
use Rattle.vs_net.specs.Network.{Reset}
use Rattle.vs_design.specs.Expressions.{Signal, signal_length}
use Rattle.vs_design.specs.Values.{count_from, bits_of_signal}
use Rattle.vs_design.specs.Designs.{Process, Continuous, Always, Design, bit_count, top_inputs}
use Rattle.vs_design.specs.Footprints.{contains, input_bits, all_reads, writes_of, waits_of}
use Rattle.vs_design.specs.Statements.{Statement}
use Rattle.vs_design.specs.Clocks.{clock_bits, clock_nets, nets_within, own_clocks, own_nets, first_of, may_reset, root_of, events_of, Events, ByClock, ByBoth}
use Rattle.vs_design.specs.Resets.{reset_branch, reset_with, reset_by, reset_of}
use Rattle.vs_design.specs.Laws.{AcceptedIsLawful, BitsOfDesign, ClockNetsAre, SpareClockIs}
use Rattle.vs_cone.specs.Given.{data_bits}
use Rattle.vs_cone.specs.Sources.{SourcesOfDesign}
use Rattle.vs_cone.proofs.Writes.{by_test}
use Rattle.vs_cone.proofs.Processes.{some_is, in_left, in_right}
use Rattle.vs_cone.proofs.Ports.{port, target_port, has_target, contains_one}
use Rattle.vs_cone.proofs.ClockWriters.{ClockPlace, among, beyond, clock_place}
use Rattle.vs_cone.proofs.OwnClocks.{own_or_spare, none_within}
use Rattle.vs_cone.proofs.Given.{contains_filter, data_bit_is, bit_of_signal, register_block, register_has, input_below, data_is_no_net, register_is_no_net, reset_writer, reset_writes, data_is_no_register}

-- the input of a reset is a data input
number_of : (ss : List Signal) (clocks : List ℕ) (i : ℕ) (test : ℕ → Bool) → find test (map first_of (filter (may_reset clocks) ss)) ≡ Some i → (j : ℕ) × (s : Signal) × (slice_get ss j ≡ Some s) × (may_reset clocks s ≡ true) × (s.first ≡ i)
number_of [] clocks i test h = cc
number_of (s ∷ ss) clocks i test h =
    let more = λ (k : find test (map first_of (filter (may_reset clocks) ss)) ≡ Some i). let r = number_of ss clocks i test k in later r in
    by_test (may_reset clocks s)
    (λ e. let k = subst (λ (c : Bool). find test (map first_of (if c then (s ∷ filter (may_reset clocks) ss) else filter (may_reset clocks) ss)) ≡ Some i) e h in
    by_test (test s.first)
    (λ t. (0, s, refl, e, some_is s.first i (subst (λ (c : Bool). (if c then Some s.first else find test (map first_of (filter (may_reset clocks) ss))) ≡ Some i) t k)))
    (λ t. more (subst (λ (c : Bool). (if c then Some s.first else find test (map first_of (filter (may_reset clocks) ss))) ≡ Some i) t k)))
    (λ e. more (subst (λ (c : Bool). find test (map first_of (if c then (s ∷ filter (may_reset clocks) ss) else filter (may_reset clocks) ss)) ≡ Some i) e h))
  where
    later : (j : ℕ) × (t : Signal) × (slice_get ss j ≡ Some t) × (may_reset clocks t ≡ true) × (t.first ≡ i) → (j : ℕ) × (t : Signal) × (slice_get (s ∷ ss) j ≡ Some t) × (may_reset clocks t ≡ true) × (t.first ≡ i)
    later r = (suc r.0, r.1, r.2, r.3, r.4)

root_is_data : (d : Design) (clocks : List ℕ) (b i : ℕ) → root_of d clocks b ≡ Some i → contains (data_bits d clocks) i ≡ true
root_is_data d clocks b i h =
    let r = number_of (top_inputs d) clocks i (λ j. contains (clock_nets d (j ∷ [])) b) h in
    let parts = and_parts (signal_length r.1 == 1) (not (contains clocks r.1.first)) r.3 in
    let first : contains (bits_of_signal r.1) i ≡ true =
    ap (λ m. contains (count_from r.1.first m) i) (eqb-true (signal_length r.1) 1 parts.0)
    ∙ ap (λ c. c || false) (eq-eqb i r.1.first (sym r.4)) in
    let input : contains (input_bits d) i ≡ true = bit_of_signal (top_inputs d) r.0 r.1 i r.2 first in
    data_bit_is d clocks i ∙ ap (λ c. c && not (contains clocks i)) input ∙ subst (λ c. not (contains clocks c) ≡ true) r.4 parts.1

reset_input : (d : Design) (clocks : List ℕ) (x : Process) (r : Reset) → reset_of d clocks x ≡ Some r → contains (data_bits d clocks) r.input ≡ true
reset_input d clocks (Continuous place port target_place target e) r h = cc
reset_input d clocks (Always place star events statement) r h = by_events (events_of (clock_nets d clocks) (root_of d clocks) events) h
  where
    by_events : (o : Option Events) → reset_by (root_of d clocks) o statement ≡ Some r → contains (data_bits d clocks) r.input ≡ true
    by_events None h = cc
    by_events (Some (ByClock e)) h = cc
    by_events (Some (ByBoth e f)) h = by_root (root_of d clocks f.signal.first) refl (reset_branch f.edge f.signal.first statement) h
      where
        by_root : (o : Option ℕ) → root_of d clocks f.signal.first ≡ o → (t : Option Statement) → reset_with f o t ≡ Some r → contains (data_bits d clocks) r.input ≡ true
        by_root None is t h = cc
        by_root (Some i) is None h = cc
        by_root (Some i) is (Some taken) h = subst (λ c. contains (data_bits d clocks) c ≡ true) (ap (λ (q : Reset). q.input) (some_is _ r h)) (root_is_data d clocks f.signal.first i is)

pub sources : AcceptedIsLawful → ClockNetsAre → SpareClockIs → BitsOfDesign → SourcesOfDesign
sources lawful law spare bits d names a =
    record {
      data_below = λ b h. input_below d a.lawful.bits_numbered b (and_parts (contains (input_bits d) b) (not (contains (clock_bits a.clocks) b)) (sym (data_bit_is d (clock_bits a.clocks) b) ∙ h)).0;
      nets_below = λ b h. elim ((law d (clock_bits a.clocks) b).0 (own_is b h).0) [
        | inl at ↦ own_below b h at
        | inr at ↦
            let r = target_port (clock_nets d (clock_bits a.clocks)) d.processes b at in
            let q = port d (clock_bits a.clocks) (clock_nets d (clock_bits a.clocks)) r.1 (has_target (clock_nets d (clock_bits a.clocks)) r.1 b r.3) in
            let to : b ≡ q.to = contains_one q.to b (subst (λ bs. contains bs b ≡ true) q.target r.3) in
            written r.0 r.1 b r.2 (subst (λ c. contains (writes_of r.1) c ≡ true) (sym to) (sym (Rattle.vs_cone.proofs.Processes.writes_are d (clock_bits a.clocks) r.1 q.to) ∙ q.writes_it))
      ];
      nets_own = λ b h. (own_is b h).0;
      nets_are = λ b h. net_is b h;
      registers_below = λ b h. let r = register_block d.processes b h in written r.0 r.1 b r.2 r.4;
      data_apart = λ b h. data_is_no_net d names a lawful law b h;
      registers_apart = λ b h. register_is_no_net d names a lawful law b h;
      resets_are = λ b h. let r = reset_writer d names a lawful law b h in register_has d.processes r.number r.block b r.number_is r.clocked r.writes_bit;
      data_is_no_register = λ b h. data_is_no_register d names a lawful law b h;
      reset_writes = λ p x b e k h. reset_writes d names a lawful law p x b e k h;
      reset_input = λ x r e. reset_input d (clock_bits a.clocks) x r e;
    }
  where
    written : (p : ℕ) (x : Process) (b : ℕ) → slice_get d.processes p ≡ Some x → contains (writes_of x) b ≡ true → b < bit_count d
    written p x b e h = bits d a.lawful p x e b (in_right (all_reads x) (writes_of x ++ waits_of x) b (in_left (writes_of x) (waits_of x) b h))

    -- the clocks are all bits of the design, or one that isn't is the one clock
    own : (own_clocks d (clock_bits a.clocks) ≡ clock_bits a.clocks) ⊎ ((own_clocks d (clock_bits a.clocks) ≡ []) × ((c : ℕ) × (clock_bits a.clocks ≡ c ∷ []) × (bit_count d ≤ c)))
    own = own_or_spare d names a.clocks a.clocks_found a.lawful.bits_numbered

    none_of_none : (n : ℕ) (ps : List Process) (b : ℕ) → contains (nets_within n ps []) b ≡ true → ⊥
    none_of_none n ps b h = none_within n ps b h

    own_is : (b : ℕ) → contains (own_nets d (clock_bits a.clocks)) b ≡ true → (contains (clock_nets d (clock_bits a.clocks)) b ≡ true) × (own_clocks d (clock_bits a.clocks) ≡ clock_bits a.clocks)
    own_is b h = elim own [
      | inl all ↦ (subst (λ cs. contains (clock_nets d cs) b ≡ true) all h, all)
      | inr spare ↦ absurd (none_of_none (length d.processes) d.processes b (subst (λ cs. contains (clock_nets d cs) b ≡ true) spare.0 h))
    ]

    -- where all are bits of the design none is beyond them
    own_kept : (cs : List ℕ) (b : ℕ) → own_clocks d cs ≡ cs → contains cs b ≡ true → bit_count d ≤ b → ⊥
    own_kept cs b all h past =
        let low : (contains cs b && nat_lt b (bit_count d)) ≡ true = sym (contains_filter (λ c. nat_lt c (bit_count d)) cs b) ∙ ap (λ xs. contains xs b) all ∙ h in
        let parts = and_parts (contains cs b) (nat_lt b (bit_count d)) low in
        let k : nat_lt b (bit_count d) ≡ true = parts.1 in
        grind arith

    own_below : (b : ℕ) → contains (own_nets d (clock_bits a.clocks)) b ≡ true → contains (clock_bits a.clocks) b ≡ true → b < bit_count d
    own_below b h at = elim (clock_place d names a.clocks a.clocks_found b at) [
      | among i s e is one ↦ input_below d a.lawful.bits_numbered b (bit_of_signal (top_inputs d) i s b e (ap (λ m. contains (count_from s.first m) b) one ∙ ap (λ c. c || false) (eq-eqb b s.first (sym is))))
      | beyond past ↦ absurd (own_kept (clock_bits a.clocks) b (own_is b h).1 at past)
    ]

    net_is : (b : ℕ) → contains (clock_nets d (clock_bits a.clocks)) b ≡ true → (contains (own_nets d (clock_bits a.clocks)) b ≡ true) ⊎ ((contains (clock_bits a.clocks) b ≡ true) × (bit_count d ≤ b))
    net_is b h = elim own [
      | inl all ↦ inl (subst (λ cs. contains (clock_nets d cs) b ≡ true) (sym all) h)
      | inr alone ↦
          let one : contains (clock_nets d (alone.1.0 ∷ [])) b ≡ true = subst (λ cs. contains (clock_nets d cs) b ≡ true) alone.1.1 h in
          let at : b ≡ alone.1.0 = contains_one alone.1.0 b (subst (λ (bs : List ℕ). contains bs b ≡ true) (spare d a.lawful alone.1.0 alone.1.2).0 one) in
          inr (subst (λ cs. contains cs b ≡ true) (sym alone.1.1) (ap (λ c. c || false) (eq-eqb b alone.1.0 at)), subst (λ m. bit_count d ≤ m) (sym at) alone.1.2)
    ]
