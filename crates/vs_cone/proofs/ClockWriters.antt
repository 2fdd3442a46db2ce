-- Each clock of an accepted design has a writer of its own.
use Rattle.std.proofs.Common.{◌≡◌, ℕ, zero, suc, ◌+◌, ◌≤◌, nat_lt, arith, Bool, true, false, not, List, [], ◌∷◌, ◌++◌, ◌&&◌, ◌||◌, ◌==◌, if◌then◌else◌, map, filter, length, Option, Some, None, sym, ap, ◌∙◌, subst, refl, eqb-true, eq-eqb, slice_get}
use Rattle.std.specs.Prelude.{find}
use Rattle.std.specs.List.{list_any}
use Rattle.std.proofs.lemmas.Bool.{and_parts}
use Rattle.vs_net.specs.Network.{Network}
use Rattle.vs_net.specs.Network as N
use Rattle.vs_design.specs.Expressions.{Signal, signal_length}
use Rattle.vs_design.specs.Designs.{Process, Design, top_inputs, bit_count}
use Rattle.vs_design.specs.Footprints.{contains}
use Rattle.vs_design.specs.Initials.{sole_bits}
use Rattle.vs_design.specs.Clocks.{clock_bits, clock_inputs, and_inputs, named_input, named_inputs, same_name, spare_clock}
use Rattle.vs_design.specs.Networks.{process_of, writer_of, spare_clocks, spare_writers, keeper_of, at_or_input, network_of}
use Rattle.vs_design.specs.Accepted.{IsAcceptedDesign}
use Rattle.vs_cone.proofs.Writes.{by_test}
use Rattle.vs_cone.proofs.Processes.{some_is, writer_at}

-- a one-bit input of the top has this bit
pub record InputAt (d : Design) (c : ℕ) : Type 0 where
  pub number : ℕ
  pub signal : Signal
  pub there : slice_get (top_inputs d) number ≡ Some signal
  pub at : signal.first ≡ c
  pub one : signal_length signal ≡ 1

-- a clock is a one-bit input of the top, or none of the design's bits
pub data ClockPlace (d : Design) (c : ℕ) : Type 0 where
  among : (i : ℕ) (s : Signal) → slice_get (top_inputs d) i ≡ Some s → s.first ≡ c → signal_length s ≡ 1 → ClockPlace d c
  beyond : bit_count d ≤ c → ClockPlace d c

pub found : (test : Signal → Bool) (ss : List Signal) (s : Signal) → find test ss ≡ Some s → (j : ℕ) × (slice_get ss j ≡ Some s) × (test s ≡ true)
found test [] s e = cc
found test (t ∷ ss) s e =
    by_test (test t)
    (λ k.
    let same : t ≡ s = some_is t s (subst (λ (b : Bool). (if b then Some t else find test ss) ≡ Some s) k e) in
    (0, ap (λ x. Some x) same, subst (λ x. test x ≡ true) same k))
    (λ k.
    let r = found test ss s (subst (λ (b : Bool). (if b then Some t else find test ss) ≡ Some s) k e) in
    (suc r.0, r.1, r.2))

pub to_filter : (test : Signal → Bool) (ss : List Signal) (j : ℕ) (s : Signal) → slice_get ss j ≡ Some s → test s ≡ true → (i : ℕ) × (slice_get (filter test ss) i ≡ Some s)
to_filter test [] j s e h = cc
to_filter test (t ∷ ss) zero s e h =
    let same : t ≡ s = some_is t s e in
    (0, ap (λ (b : Bool). slice_get (if b then (t ∷ filter test ss) else filter test ss) 0) (subst (λ x. test x ≡ true) (sym same) h) ∙ ap (λ x. Some x) same)
to_filter test (t ∷ ss) (suc j) s e h =
    let r = to_filter test ss j s e h in
    by_test (test t)
    (λ k. (suc r.0, ap (λ (b : Bool). slice_get (if b then (t ∷ filter test ss) else filter test ss) (suc r.0)) k ∙ r.1))
    (λ k. (r.0, ap (λ (b : Bool). slice_get (if b then (t ∷ filter test ss) else filter test ss) r.0) k ∙ r.1))

-- the input of a name
named_place : (d : Design) (name : List ℕ) (s : Signal) → named_input d name ≡ Some s → (c : ℕ) → c ≡ s.first → InputAt d c
named_place d name s e c at =
    let f = found (λ t. t.input && same_name t.name name && (signal_length t == 1)) d.signals s e in
    let parts = and_parts (s.input && same_name s.name name) (signal_length s == 1) f.2 in
    let r = to_filter (λ t. t.input) d.signals f.0 s f.1 (and_parts s.input (same_name s.name name) parts.0).0 in
    record { number = r.0; signal = s; there = r.1; at = sym at; one = eqb-true (signal_length s) 1 parts.1 }

pub names_place : (d : Design) (names : List (List ℕ)) (ss : List Signal) → named_inputs d names ≡ Some ss → (c : ℕ) → contains (clock_bits ss) c ≡ true → InputAt d c
names_place d [] ss e c h = absurd (let k : false ≡ true = subst (λ (xs : List Signal). contains (clock_bits xs) c ≡ true) (sym (some_is [] ss e)) h in cc)
names_place d (name ∷ names) ss e c h =
    by_test (list_any (same_name name) names)
    (λ t. absurd (let k : None ≡ Some ss = subst (λ (b : Bool). (if b then None else and_inputs (named_input d name) (named_inputs d names)) ≡ Some ss) t e in cc))
    (λ t. split (named_input d name) refl (named_inputs d names) refl (subst (λ (b : Bool). (if b then None else and_inputs (named_input d name) (named_inputs d names)) ≡ Some ss) t e) (λ more rest has. names_place d names more rest c has))
  where
    split : (o : Option Signal) → named_input d name ≡ o → (q : Option (List Signal)) → named_inputs d names ≡ q → and_inputs o q ≡ Some ss → ((more : List Signal) → named_inputs d names ≡ Some more → contains (clock_bits more) c ≡ true → InputAt d c) → InputAt d c
    split None first q rest k later = cc
    split (Some s) first None rest k later = cc
    split (Some s) first (Some more) rest k later =
        let has : ((c == s.first) || contains (clock_bits more) c) ≡ true = subst (λ (xs : List Signal). contains (clock_bits xs) c ≡ true) (sym (some_is (s ∷ more) ss k)) h in
        by_test (c == s.first)
        (λ t. named_place d name s first c (eqb-true c s.first t))
        (λ t. later more rest (subst (λ (b : Bool). (b || contains (clock_bits more) c) ≡ true) t has))

pub clock_place : (d : Design) (names : List (List ℕ)) (ss : List Signal) → clock_inputs d names ≡ Some ss → (c : ℕ) → contains (clock_bits ss) c ≡ true → ClockPlace d c
clock_place d [] ss e c h =
    let has : ((c == bit_count d) || false) ≡ true = subst (λ (xs : List Signal). contains (clock_bits xs) c ≡ true) (sym (some_is (spare_clock d ∷ []) ss e)) h in
    by_test (c == bit_count d)
    (λ t. beyond (let at = eqb-true c (bit_count d) t in omega (arith, at)))
    (λ t. absurd (let k : false ≡ true = subst (λ (b : Bool). (b || false) ≡ true) t has in cc))
clock_place d (name ∷ names) ss e c h = let r = names_place d (name ∷ names) ss e c h in among r.number r.signal r.there r.at r.one

-- a process that drives this clock
pub record ClockWriter (d : Design) (clocks : List ℕ) (c : ℕ) : Type 0 where
  pub number : ℕ
  pub is : (network_of d clocks).process number ≡ N.Clock c

-- each clock has one
abbrev pub AreWritten : Design → List ℕ → Type 0
AreWritten d clocks = (c : ℕ) → contains clocks c ≡ true → ClockWriter d clocks c

-- a clock beyond the design's bits is one of its own writers
spare_place : (d : Design) (clocks : List ℕ) (c : ℕ) → contains clocks c ≡ true → bit_count d ≤ c → (k : ℕ) × (slice_get (spare_clocks d clocks) k ≡ Some c)
spare_place d clocks c h past = go clocks h
  where
    not_below : (m n : ℕ) → n ≤ m → nat_lt m n ≡ false
    not_below m n l = grind arith

    beyond_it : ℕ → Bool
    beyond_it k = not (nat_lt k (bit_count d))

    go : (cs : List ℕ) → contains cs c ≡ true → (k : ℕ) × (slice_get (filter (λ k. not (nat_lt k (bit_count d))) cs) k ≡ Some c)
    go [] h = cc
    go (x ∷ cs) h =
        by_test (c == x)
        (λ t.
        let same : c ≡ x = eqb-true c x t in
        let off : nat_lt x (bit_count d) ≡ false = subst (λ m. nat_lt m (bit_count d) ≡ false) same (not_below c (bit_count d) past) in
        (0, ap (λ (b : Bool). slice_get (if not b then (x ∷ filter (λ k. not (nat_lt k (bit_count d))) cs) else filter (λ k. not (nat_lt k (bit_count d))) cs) 0) off ∙ ap (λ m. Some m) (sym same)))
        (λ t.
        let r = go cs (subst (λ (b : Bool). (b || contains cs c) ≡ true) t h) in
        by_test (nat_lt x (bit_count d))
        (λ u. (r.0, ap (λ (b : Bool). slice_get (if not b then (x ∷ filter (λ k. not (nat_lt k (bit_count d))) cs) else filter (λ k. not (nat_lt k (bit_count d))) cs) r.0) u ∙ r.1))
        (λ u. (suc r.0, ap (λ (b : Bool). slice_get (if not b then (x ∷ filter (λ k. not (nat_lt k (bit_count d))) cs) else filter (λ k. not (nat_lt k (bit_count d))) cs) (suc r.0)) u ∙ r.1)))

pub clocks_written : (d : Design) (names : List (List ℕ)) (a : IsAcceptedDesign d names) → AreWritten d (clock_bits a.clocks)
clocks_written d names a c h = by_place (clock_place d names a.clocks a.clocks_found c h)
  where
    by_place : ClockPlace d c → ClockWriter d (clock_bits a.clocks) c
    by_place (among i s e at one) = record {
      number = length d.processes + i;
      is = writer_at d (clock_bits a.clocks) i (writer_of (clock_bits a.clocks) s) (inputs_there (top_inputs d) i s e)
          ∙ ap (λ (b : Bool). if b then N.Clock s.first else N.Input (Rattle.vs_design.specs.Values.bits_of_signal s)) (subst (λ m. contains (clock_bits a.clocks) m ≡ true) (sym at) h)
          ∙ ap N.Clock at;
    }
      where
        inputs_there : (ss : List Signal) (i : ℕ) (s : Signal) → slice_get ss i ≡ Some s → at_or_input (map (writer_of (clock_bits a.clocks)) ss ++ (spare_writers d (clock_bits a.clocks) ++ keeper_of (clock_bits a.clocks) (sole_bits d))) i ≡ writer_of (clock_bits a.clocks) s
        inputs_there [] i s e = cc
        inputs_there (t ∷ ss) zero s e = ap (writer_of (clock_bits a.clocks)) (some_is t s e)
        inputs_there (t ∷ ss) (suc i) s e = inputs_there ss i s e
    by_place (beyond past) =
        let r = spare_place d (clock_bits a.clocks) c h past in
        record {
          number = length d.processes + (length (top_inputs d) + r.0);
          is = writer_at d (clock_bits a.clocks) (length (top_inputs d) + r.0) (N.Clock c) (past_inputs (top_inputs d) (length (top_inputs d) + r.0) r.0 refl (spare_there (spare_clocks d (clock_bits a.clocks)) r.0 r.1));
        }
      where
        spare_there : (cs : List ℕ) (k : ℕ) → slice_get cs k ≡ Some c → at_or_input (map N.Clock cs ++ keeper_of (clock_bits a.clocks) (sole_bits d)) k ≡ N.Clock c
        spare_there [] k e = cc
        spare_there (x ∷ cs) zero e = ap N.Clock (some_is x c e)
        spare_there (x ∷ cs) (suc k) e = spare_there cs k e

        past_inputs : (ss : List Signal) (p k : ℕ) → p ≡ length ss + k → at_or_input (spare_writers d (clock_bits a.clocks) ++ keeper_of (clock_bits a.clocks) (sole_bits d)) k ≡ N.Clock c
            → at_or_input (map (writer_of (clock_bits a.clocks)) ss ++ (spare_writers d (clock_bits a.clocks) ++ keeper_of (clock_bits a.clocks) (sole_bits d))) p ≡ N.Clock c
        past_inputs [] p k l h = subst (λ m. at_or_input (spare_writers d (clock_bits a.clocks) ++ keeper_of (clock_bits a.clocks) (sole_bits d)) m ≡ N.Clock c) (sym (l ∙ omega arith)) h
        past_inputs (t ∷ ss) zero k l h = absurd (omega (arith, l))
        past_inputs (t ∷ ss) (suc p) k l h = past_inputs ss p k (omega (arith, l)) h
