-- The inputs of resets and select inputs are known in every vector of a valid stimulus.
use Rattle.std.proofs.Common.{◌≡◌, ◌<◌, ◌≤◌, ◌+◌, ◌∙◌, ◌==◌, ◌&&◌, ◌||◌, ℕ, zero, suc, Bool, true, false, not, if◌then◌else◌, List, [], ◌∷◌, ◌++◌, length, map, filter, find, sym, ap, refl, subst, arith, Option, Some, None, inl, inr, ◌⊎◌, All, sum, nat_lt}
use Rattle.std.specs.List.{list_any}
use Rattle.std.proofs.lemmas.Bool.{and_parts, eqb-true, eq-eqb}
use Rattle.std.proofs.lemmas.Bool.Decides.{nat_tests}
use Rattle.std.proofs.lemmas.Option.{same_Some}
use Rattle.std.proofs.lemmas.List.Elements.{All-cons}
use Rattle.vs_four.specs.declared.Bit4.{Bit4}
use Rattle.vs_four.specs.declared.Bit4.TheVariants.{X}
use Rattle.vs_four.specs.Tables.{is_known}
use Rattle.vs_four.specs.Logic.{BitList, map2}
use Rattle.vs_net.specs.Network.{State, Reset, put, write_all}
use Rattle.vs_net.specs.Network as N
use Rattle.vs_net.specs.Lawful.{IsKnown}
use Rattle.vs_net.specs.Queue.{slots_of}
use Rattle.vs_net.specs.Laws.{HasKnownResets, AreKnownResets}
use Rattle.vs_design.specs.Expressions.{Signal, signal_length}
use Rattle.vs_design.specs.Statements.{Statement}
use Rattle.vs_design.specs.Designs.{Event, Design, Process, Continuous, Always, is_clocked, top_inputs, bit_count}
use Rattle.vs_design.specs.Values.{count_from, bits_of_signal}
use Rattle.vs_design.specs.Footprints.{contains, signals_bits}
use Rattle.vs_design.specs.Elaborated.{have_bits_from}
use Rattle.vs_design.specs.Clocks.{clock_bits, Events, ByClock, ByBoth, clock_nets, root_of, may_reset, first_of, one_bit_inputs}
use Rattle.vs_design.specs.Resets.{reset_branch, reset_with, reset_by, reset_of, has_root, reset_inputs}
use Rattle.vs_design.specs.Selects.{root_numbers, data_selects, select_firsts}
use Rattle.vs_design.specs.Laws.{HasKnownSelects, AreKnownSelects}
use Rattle.vs_design.specs.Accepted.{IsAcceptedDesign}
use Rattle.vs_design.specs.Initials.{sole_bits}
use Rattle.vs_design.specs.Networks.{spare_clocks, events_in, block_process, process_of, writer_of, spare_writers, keeper_of, at_or_input, network_of}
use Rattle.vs_cone.specs.Given.{data_bits}
use Rattle.vs_stim.specs.declared.input.Input.{Input}
use Rattle.vs_stim.specs.Header.{lengths}
use Rattle.vs_stim.specs.Row.{sizes}
use Rattle.vs_stim.specs.Vectors.{all_known, vector_known}
use Rattle.vs_stim.specs.Laws.{known_in_controls}
use Rattle.vs_rounds.specs.Drives.{Vector, bits_of, write_to, vector_state}
use Rattle.vs_rounds.specs.Inputs.{is_data_input, input_of, AreDataInputs}
use Rattle.vs_design.proofs.Signals.{count_low, count_high}
use Rattle.vs_rounds.proofs.Settled.{length-count_from}
use Rattle.vs_rounds.proofs.Known.{IsApart, AreApart, first_is, apart_past, data_bits_are, inputs_fit, bits_long, known_bit, or_true, contains_front, skip_bit}

-- ---- the input of a reset is a reset input of the design

found_here : (test : ℕ → Bool) (x : ℕ) (xs : List ℕ) (i : ℕ) (b : Bool) → (if b then Some x else find test xs) ≡ Some i → (find test xs ≡ Some i → contains xs i ≡ true) → contains (x ∷ xs) i ≡ true
found_here test x xs i true h rest =
    let is : x ≡ i = same_Some x i h in
    ap (λ (e : Bool). e || contains xs i) (eq-eqb i x (sym is))
found_here test x xs i false h rest = ap (λ (e : Bool). (i == x) || e) (rest h) ∙ or_true (i == x)

-- what is found is there
found_in : (test : ℕ → Bool) (xs : List ℕ) (i : ℕ) → find test xs ≡ Some i → contains xs i ≡ true
found_in test [] i h = absurd (cc)
found_in test (x ∷ xs) i h = found_here test x xs i (test x) h (found_in test xs i)

kept_here : (x : ℕ) (xs : List ℕ) (i : ℕ) (t e : Bool) → (i == x) ≡ e → (e ≡ true → t ≡ true) → (e ≡ false → contains xs i ≡ true) → contains (if t then x ∷ xs else xs) i ≡ true
kept_here x xs i true true is first later = ap (λ (e : Bool). e || contains xs i) is
kept_here x xs i true false is first later = ap (λ (e : Bool). e || contains xs i) is ∙ later refl
kept_here x xs i false true is first later = absurd (cc (first refl))
kept_here x xs i false false is first later = later refl

-- what passes a test stays
kept_in : (test : ℕ → Bool) (xs : List ℕ) (i : ℕ) → contains xs i ≡ true → test i ≡ true → contains (filter test xs) i ≡ true
kept_in test [] i h k = absurd (cc)
kept_in test (x ∷ xs) i h k =
    kept_here x (filter test xs) i (test x) (i == x) refl
    (λ e. ap test (sym (eqb-true i x e)) ∙ k)
    (λ e. kept_in test xs i (ap (λ (b : Bool). b || contains xs i) (sym e) ∙ h) k)

-- the reset has its input by the root of a net
with_root : (e : Event) (root : Option ℕ) (branch : Option Statement) (r : Reset) → reset_with e root branch ≡ Some r → root ≡ Some r.input
with_root e None branch r h = absurd (cc)
with_root e (Some i) None r h = absurd (cc)
with_root e (Some i) (Some taken) r h = ap (λ (x : Reset). Some x.input) (same_Some _ r h)

by_root : (roots : ℕ → Option ℕ) (events : Option Events) (s : Statement) (r : Reset) → reset_by roots events s ≡ Some r → (net : ℕ) × (roots net ≡ Some r.input)
by_root roots None s r h = absurd (cc)
by_root roots (Some (ByClock clock)) s r h = absurd (cc)
by_root roots (Some (ByBoth clock reset)) s r h = (reset.signal.first, with_root reset (roots reset.signal.first) (reset_branch reset.edge reset.signal.first s) r h)

-- the input is at the root of a reset of one of these processes, and may be one
abbrev IsRoot : Design → List ℕ → List Process → ℕ → Type 0
IsRoot d clocks ps i = (list_any (λ p. has_root i (reset_of d clocks p)) ps ≡ true) × (contains (one_bit_inputs d clocks) i ≡ true)

block_root : (d : Design) (clocks : List ℕ) (clocked : Bool) (place : ℕ) (star : Bool) (events : List Event) (s : Statement) (ps : List Process) (r : Reset)
    → N.reset_of (block_process d clocks clocked (Always place star events s) events s) ≡ Some r → IsRoot d clocks (Always place star events s ∷ ps) r.input
block_root d clocks true place star events s ps r h =
    let root = by_root (root_of d clocks) (events_in d clocks events) s r h in
    let own : has_root r.input (reset_of d clocks (Always place star events s)) ≡ true = ap (has_root r.input) h ∙ eq-eqb r.input r.input refl in
    (ap (λ (e : Bool). e || list_any (λ p. has_root r.input (reset_of d clocks p)) ps) own, found_in (λ i. contains (clock_nets d (i ∷ [])) root.0) (one_bit_inputs d clocks) r.input root.1)
block_root d clocks false place star events s ps r h = absurd (cc)

no_keeper : (clocks : List ℕ) (bs : List ℕ) (p : ℕ) (r : Reset) → N.reset_of (at_or_input (keeper_of clocks bs) p) ≡ Some r → ⊥
no_keeper clocks [] p r h = cc
no_keeper clocks (b ∷ bs) zero r h = cc
no_keeper clocks (b ∷ bs) (suc p) r h = cc

no_writer : (d : Design) (clocks : List ℕ) (ss : List Signal) (p : ℕ) (r : Reset) → N.reset_of (at_or_input (map (writer_of clocks) ss ++ (spare_writers d clocks ++ keeper_of clocks (sole_bits d))) p) ≡ Some r → ⊥
no_writer d clocks [] p r h = no_spare (spare_clocks d clocks) p h
  where
    no_spare : (cs : List ℕ) (p : ℕ) → N.reset_of (at_or_input (map N.Clock cs ++ keeper_of clocks (sole_bits d)) p) ≡ Some r → ⊥
    no_spare [] p h = no_keeper clocks (sole_bits d) p r h
    no_spare (c ∷ cs) zero h = cc
    no_spare (c ∷ cs) (suc p) h = no_spare cs p h
no_writer d clocks (s ∷ ss) zero r h = by_clock (contains clocks s.first) h
  where
    by_clock : (b : Bool) → N.reset_of (if b then N.Clock s.first else N.Input (bits_of_signal s)) ≡ Some r → ⊥
    by_clock true h = cc
    by_clock false h = cc
no_writer d clocks (s ∷ ss) (suc p) r h = no_writer d clocks ss p r h

root_among : (d : Design) (clocks : List ℕ) (ps : List Process) (ss : List Signal) (p : ℕ) (r : Reset) → N.reset_of (at_or_input (map (process_of d clocks) ps ++ (map (writer_of clocks) ss ++ (spare_writers d clocks ++ keeper_of clocks (sole_bits d)))) p) ≡ Some r → IsRoot d clocks ps r.input
root_among d clocks [] ss p r h = absurd (no_writer d clocks ss p r h)
root_among d clocks (Continuous place port target_place target e ∷ ps) ss zero r h = absurd (cc)
root_among d clocks (Always place star events s ∷ ps) ss zero r h = block_root d clocks (is_clocked (Always place star events s)) place star events s ps r h
root_among d clocks (q ∷ ps) ss (suc p) r h =
    let later = root_among d clocks ps ss p r h in
    (ap (λ (e : Bool). has_root r.input (reset_of d clocks q) || e) later.0 ∙ or_true (has_root r.input (reset_of d clocks q)), later.1)

-- ---- a one-bit input has a bit of its own

-- the bits of the one-bit inputs among these signals
abbrev firsts : List ℕ → List Signal → List ℕ
firsts clocks ss = map first_of (filter (may_reset clocks) (filter (λ s. s.input) ss))

-- the bit is this signal's, or that of a later one
first_or_later : (clocks : List ℕ) (b : ℕ) (s : Signal) (ss : List Signal) → contains (firsts clocks (s ∷ ss)) b ≡ true
    → ((s.first ≡ b) × (s.input ≡ true) × (may_reset clocks s ≡ true)) ⊎ (contains (firsts clocks ss) b ≡ true)
first_or_later clocks b s ss h = by_input s.input refl h
  where
    inputs : List Signal
    inputs = filter (λ x. x.input) ss

    by_bit : (e : Bool) → (b == s.first) ≡ e → s.input ≡ true → may_reset clocks s ≡ true → (e || contains (map first_of (filter (may_reset clocks) inputs)) b) ≡ true
        → ((s.first ≡ b) × (s.input ≡ true) × (may_reset clocks s ≡ true)) ⊎ (contains (map first_of (filter (may_reset clocks) inputs)) b ≡ true)
    by_bit true e is may h = inl (sym (eqb-true b s.first e), is, may)
    by_bit false e is may h = inr h

    by_reset : (m : Bool) → may_reset clocks s ≡ m → s.input ≡ true → contains (map first_of (if m then s ∷ filter (may_reset clocks) inputs else filter (may_reset clocks) inputs)) b ≡ true
        → ((s.first ≡ b) × (s.input ≡ true) × (may_reset clocks s ≡ true)) ⊎ (contains (map first_of (filter (may_reset clocks) inputs)) b ≡ true)
    by_reset true may is h = by_bit (b == s.first) refl is may h
    by_reset false may is h = inr h

    by_input : (i : Bool) → s.input ≡ i → contains (map first_of (filter (may_reset clocks) (if i then s ∷ inputs else inputs))) b ≡ true
        → ((s.first ≡ b) × (s.input ≡ true) × (may_reset clocks s ≡ true)) ⊎ (contains (map first_of (filter (may_reset clocks) inputs)) b ≡ true)
    by_input true is h = by_reset (may_reset clocks s) refl is h
    by_input false is h = inr h

one_of : (clocks : List ℕ) (s : Signal) → may_reset clocks s ≡ true → signal_length s ≡ 1
one_of clocks s h = eqb-true (signal_length s) 1 (and_parts (signal_length s == 1) (not (contains clocks s.first)) h).0

firsts_behind : (clocks : List ℕ) (b base : ℕ) (ss : List Signal) → have_bits_from base ss ≡ true → contains (firsts clocks ss) b ≡ true → base ≤ b
firsts_behind clocks b base [] h k = absurd (cc)
firsts_behind clocks b base (s ∷ ss) h k =
    let at = first_is base s ss h in
    elim (first_or_later clocks b s ss k) [
      | inl here ↦ omega (arith, at.0, here.0)
      | inr later ↦ let behind = firsts_behind clocks b (base + signal_length s) ss at.1 later in omega (arith, behind)
    ]

firsts_apart : (clocks : List ℕ) (b base : ℕ) (ss : List Signal) → have_bits_from base ss ≡ true → contains (firsts clocks ss) b ≡ true → AreApart b ss
firsts_apart clocks b base [] h k = tt
firsts_apart clocks b base (s ∷ ss) h k =
    let at = first_is base s ss h in
    elim (first_or_later clocks b s ss k) [
      | inl here ↦ (inl (here.0, one_of clocks s here.2), apart_past b (base + signal_length s) ss at.1 (omega (arith, at.0, here.0, one_of clocks s here.2)))
      | inr later ↦
          let behind = firsts_behind clocks b (base + signal_length s) ss at.1 later in
          (inr (inr (omega (arith, at.0, behind))), firsts_apart clocks b (base + signal_length s) ss at.1 later)
    ]

own_bit : (clocks : List ℕ) (b : ℕ) (s : Signal) → s.first ≡ b → signal_length s ≡ 1 → contains (bits_of_signal s) b ≡ true
own_bit clocks b s is one =
    ap (λ (n : ℕ). contains (count_from s.first n) b) one ∙ ap (λ (e : Bool). e || false) (eq-eqb b s.first (sym is))

-- a one-bit input's bit is a data bit
firsts_driven : (clocks : List ℕ) (b : ℕ) (ss : List Signal) → contains (firsts clocks ss) b ≡ true → contains (signals_bits (filter (is_data_input clocks) ss)) b ≡ true
firsts_driven clocks b [] h = absurd (cc)
firsts_driven clocks b (s ∷ ss) h =
    let those = filter (is_data_input clocks) ss in
    elim (first_or_later clocks b s ss h) [
      | inl here ↦
          let other : not (contains clocks s.first) ≡ true = (and_parts (signal_length s == 1) (not (contains clocks s.first)) here.2).1 in
          let is_data : is_data_input clocks s ≡ true = ap (λ (i : Bool). i && not (contains clocks s.first)) here.1 ∙ other in
          subst (λ (e : Bool). contains (signals_bits (if e then s ∷ those else those)) b ≡ true) (sym is_data)
          (contains_front (bits_of_signal s) (signals_bits those) b (own_bit clocks b s here.0 (one_of clocks s here.2)))
      | inr later ↦ skip_bit (is_data_input clocks s) s those b (firsts_driven clocks b ss later)
    ]

data_apart : (clocks : List ℕ) (b : ℕ) (ss : List Signal) → AreApart b ss → AreApart b (filter (is_data_input clocks) ss)
data_apart clocks b [] h = tt
data_apart clocks b (s ∷ ss) h = by_test (is_data_input clocks s) (data_apart clocks b ss h.1)
  where
    by_test : (t : Bool) → AreApart b (filter (is_data_input clocks) ss) → AreApart b (if t then s ∷ filter (is_data_input clocks) ss else filter (is_data_input clocks) ss)
    by_test true later = (h.0, later)
    by_test false later = later

-- ---- the values that are written to one bit

-- each value for this bit is known
abbrev known_at : ℕ → List ℕ → BitList → Bool
known_at b [] xs = true
known_at b (c ∷ cs) [] = true
known_at b (c ∷ cs) (x ∷ xs) = (not (b == c) || is_known x) && known_at b cs xs

known_at-append : (b : ℕ) (bs cs : List ℕ) (xs ys : BitList) → length bs ≡ length xs → known_at b bs xs ≡ true → known_at b cs ys ≡ true → known_at b (bs ++ cs) (xs ++ ys) ≡ true
known_at-append b [] cs [] ys long h k = k
known_at-append b [] cs (x ∷ xs) ys long h k = absurd (omega (arith, long))
known_at-append b (c ∷ bs) cs [] ys long h k = absurd (omega (arith, long))
known_at-append b (c ∷ bs) cs (x ∷ xs) ys long h k =
    let p = and_parts (not (b == c) || is_known x) (known_at b bs xs) h in
    ap (λ (y : Bool). y && known_at b (bs ++ cs) (xs ++ ys)) p.0 ∙ known_at-append b bs cs xs ys (omega (arith, long)) p.1 k

known_at-all : (b : ℕ) (bs : List ℕ) (xs : BitList) → all_known xs ≡ true → known_at b bs xs ≡ true
known_at-all b [] xs h = refl
known_at-all b (c ∷ bs) [] h = refl
known_at-all b (c ∷ bs) (x ∷ xs) h =
    let p = and_parts (is_known x) (all_known xs) h in
    ap (λ (y : Bool). (not (b == c) || y) && known_at b bs xs) p.0 ∙ ap (λ (y : Bool). y && known_at b bs xs) (or_true (not (b == c))) ∙ known_at-all b bs xs p.1

known_at-none : (b first count : ℕ) (xs : BitList) → (b < first) ⊎ (first + count ≤ b) → known_at b (count_from first count) xs ≡ true
known_at-none b first zero xs h = refl
known_at-none b first (suc count) [] h = refl
known_at-none b first (suc count) (x ∷ xs) h =
    let other : (b == first) ≡ false = elim h [ inl below ↦ grind (arith, nat_tests) | inr above ↦ grind (arith, nat_tests) ] in
    let rest = known_at-none b (suc first) count xs (elim h [ inl below ↦ inl (omega arith) | inr above ↦ inr (omega arith) ]) in
    ap (λ (e : Bool). (not e || is_known x) && known_at b (count_from (suc first) count) xs) other ∙ rest

next_at : (c : ℕ) (x : Bit4) (bs : List ℕ) (s : State) (b : ℕ) (e : Bool) → (b == c) ≡ e → (not e || is_known x) ≡ true → (contains (c ∷ bs) b ≡ true) ⊎ IsKnown (s b) → (contains bs b ≡ true) ⊎ IsKnown (put s c x b)
next_at c x bs s b true is known h = inr (subst (λ (e : Bool). IsKnown (if e then x else s b)) (sym is) (known_bit x known))
next_at c x bs s b false is known (inl h) = inl (subst (λ (e : Bool). (e || contains bs b) ≡ true) is h)
next_at c x bs s b false is known (inr h) = inr (subst (λ (e : Bool). IsKnown (if e then x else s b)) (sym is) h)

written_at : (bs : List ℕ) (xs : BitList) (s : State) (b : ℕ) → length bs ≡ length xs → known_at b bs xs ≡ true → (contains bs b ≡ true) ⊎ IsKnown (s b) → IsKnown (write_all s (map2 write_to bs xs) b)
unfolding write_all
written_at [] [] s b long known (inl h) = absurd (cc)
written_at [] [] s b long known (inr h) = h
written_at [] (x ∷ xs) s b long known h = absurd (omega (arith, long))
written_at (c ∷ bs) [] s b long known h = absurd (omega (arith, long))
written_at (c ∷ bs) (x ∷ xs) s b long known h =
    let p = and_parts (not (b == c) || is_known x) (known_at b bs xs) known in
    written_at bs xs (put s c x) b (omega (arith, long)) p.1 (next_at c x bs s b (b == c) refl p.0 h)

-- ---- the values of the inputs that have to be known

-- no bit of the signal is b, or each vector is known in it
abbrev IsHeld : (resets selects : List ℕ) → ℕ → Signal → Type 0
IsHeld resets selects b s = ((contains resets s.first || contains selects s.first) ≡ true) ⊎ ((b < s.first) ⊎ (s.first + signal_length s ≤ b))

abbrev AreHeld : (resets selects : List ℕ) → ℕ → List Signal → Type 0
AreHeld resets selects b [] = Unit {0}
AreHeld resets selects b (s ∷ ss) = IsHeld resets selects b s × AreHeld resets selects b ss

signal_known_at : (resets selects : List ℕ) (b : ℕ) (s : Signal) (x : BitList) → IsHeld resets selects b s → (not (contains resets s.first || contains selects s.first) || all_known x) ≡ true → known_at b (bits_of_signal s) x ≡ true
signal_known_at resets selects b s x (inl on) known = known_at-all b (bits_of_signal s) x (subst (λ (e : Bool). (not e || all_known x) ≡ true) on known)
signal_known_at resets selects b s x (inr other) known = known_at-none b s.first (signal_length s) x other

signals_known_at : (resets selects : List ℕ) (b : ℕ) (ss : List Signal) (v : Vector) → AreHeld resets selects b ss
    → sizes v ≡ lengths (map (input_of resets selects) ss) → known_in_controls (map (input_of resets selects) ss) v ≡ true → known_at b (signals_bits ss) (bits_of v) ≡ true
signals_known_at resets selects b [] v held fits known = refl
signals_known_at resets selects b (s ∷ ss) [] held fits known = absurd (cc)
signals_known_at resets selects b (s ∷ ss) (x ∷ v) held fits known =
    let first : length x ≡ signal_length s = cc in
    let later : sizes v ≡ lengths (map (input_of resets selects) ss) = cc in
    let k = and_parts (not (contains resets s.first || contains selects s.first) || all_known x) (known_in_controls (map (input_of resets selects) ss) v) known in
    known_at-append b (bits_of_signal s) (signals_bits ss) x (bits_of v) (length-count_from s.first (signal_length s) ∙ sym first)
    (signal_known_at resets selects b s x held.0 k.0) (signals_known_at resets selects b ss v held.1 later k.1)

-- a data bit is known in a vector, where each input that may have it is
bit_known : (d : Design) (names : List (List ℕ)) (a : IsAcceptedDesign d names) (inputs : List Input) (v : Vector) → AreDataInputs d (clock_bits a.clocks) inputs → sizes v ≡ lengths inputs → known_in_controls inputs v ≡ true
    → (b : ℕ) → AreHeld (reset_inputs d (clock_bits a.clocks)) (select_firsts d) b (filter (is_data_input (clock_bits a.clocks)) d.signals) → contains (signals_bits (filter (is_data_input (clock_bits a.clocks)) d.signals)) b ≡ true
    → IsKnown (vector_state d (clock_bits a.clocks) v b)
bit_known d names a inputs v h fits known b held driven =
    let clocks = (clock_bits a.clocks) in
    let those = filter (is_data_input clocks) d.signals in
    let each = signals_known_at (reset_inputs d clocks) (select_firsts d) b those v held (subst (λ (is : List Input). sizes v ≡ lengths is) h.inputs_are fits) (subst (λ (is : List Input). known_in_controls is v ≡ true) h.inputs_are known) in
    let long = sym (bits_long v ∙ ap sum fits ∙ inputs_fit d names a inputs h) in
    written_at (data_bits d clocks) (bits_of v) (λ b. X) b long
    (subst (λ (bs : List ℕ). known_at b bs (bits_of v) ≡ true) (sym (data_bits_are d names a)) each)
    (inl (subst (λ (bs : List ℕ). contains bs b ≡ true) (sym (data_bits_are d names a)) driven))

-- ---- resets

reset_held : (resets selects : List ℕ) (b : ℕ) (s : Signal) → contains resets b ≡ true → IsApart b s → IsHeld resets selects b s
reset_held resets selects b s on (inl own) = inl (ap (λ (e : Bool). e || contains selects s.first) (ap (contains resets) own.0 ∙ on))
reset_held resets selects b s on (inr other) = inr other

resets_held : (resets selects : List ℕ) (b : ℕ) (ss : List Signal) → contains resets b ≡ true → AreApart b ss → AreHeld resets selects b ss
resets_held resets selects b [] on apart = tt
resets_held resets selects b (s ∷ ss) on apart = (reset_held resets selects b s on apart.0, resets_held resets selects b ss on apart.1)

-- a vector whose reset inputs are known has known resets
resets_known : (d : Design) (names : List (List ℕ)) (a : IsAcceptedDesign d names) (inputs : List Input) (v : Vector) → AreDataInputs d (clock_bits a.clocks) inputs → sizes v ≡ lengths inputs → known_in_controls inputs v ≡ true
    → HasKnownResets (network_of d (clock_bits a.clocks)) (vector_state d (clock_bits a.clocks) v)
resets_known d names a inputs v h fits known = λ p r is.
    let clocks = (clock_bits a.clocks) in
    let resets = reset_inputs d clocks in
    let root = root_among d clocks d.processes (top_inputs d) p r is in
    let on : contains resets r.input ≡ true = kept_in (λ i. list_any (λ q. has_root i (reset_of d clocks q)) d.processes) (one_bit_inputs d clocks) r.input root.1 root.0 in
    let apart = data_apart clocks r.input d.signals (firsts_apart clocks r.input 0 d.signals a.lawful.bits_numbered root.1) in
    bit_known d names a inputs v h fits known r.input (resets_held resets (select_firsts d) r.input (filter (is_data_input clocks) d.signals) on apart) (firsts_driven clocks r.input d.signals root.1)

-- and so have all of these
pub all_resets_known : (d : Design) (names : List (List ℕ)) (a : IsAcceptedDesign d names) (inputs : List Input) (vs : List Vector) → AreDataInputs d (clock_bits a.clocks) inputs
    → All (λ v. sizes v ≡ lengths inputs) vs → All (λ v. known_in_controls inputs v ≡ true) vs → AreKnownResets (network_of d (clock_bits a.clocks)) (map (vector_state d (clock_bits a.clocks)) vs)
all_resets_known d names a inputs [] h fits known = tt
all_resets_known d names a inputs (v ∷ vs) h fits known = (
  resets_known d names a inputs v h (fits 0 v (omega arith)) (known 0 v (omega arith)),
  all_resets_known d names a inputs vs h (λ i x lt. fits (suc i) x (omega (arith, lt))) (λ i x lt. known (suc i) x (omega (arith, lt))),
)

-- ---- selects

-- the inputs among these signals that pass the test, by their first bits
abbrev heads : (Signal → Bool) → List Signal → List ℕ
heads test ss = map (λ (s : Signal). s.first) (filter test (filter (λ s. s.input) ss))

-- and those that aren't a clock
abbrev chosen : (Signal → Bool) → List ℕ → List Signal → List Signal
chosen test clocks ss = filter (λ s. not (contains clocks s.first)) (filter test (filter (λ s. s.input) ss))

in_either : (xs ys : List ℕ) (b : ℕ) → contains (xs ++ ys) b ≡ true → (contains xs b ≡ true) ⊎ (contains ys b ≡ true)
in_either [] ys b h = inr h
in_either (x ∷ xs) ys b h = go (b == x) h (in_either xs ys b)
  where
    go : (e : Bool) → (e || contains (xs ++ ys) b) ≡ true → (contains (xs ++ ys) b ≡ true → (contains xs b ≡ true) ⊎ (contains ys b ≡ true)) → ((e || contains xs b) ≡ true) ⊎ (contains ys b ≡ true)
    go true k later = inl refl
    go false k later = later k

-- the signal is a chosen one and has the bit
abbrev HasChosen : (Signal → Bool) → (clocks : List ℕ) (b : ℕ) → Signal → Type 0
HasChosen test clocks b s = (contains (bits_of_signal s) b ≡ true) × (s.input ≡ true) × (test s ≡ true) × (not (contains clocks s.first) ≡ true)

chosen_here : (test : Signal → Bool) (clocks : List ℕ) (b : ℕ) (s : Signal) (ss : List Signal) → contains (signals_bits (chosen test clocks (s ∷ ss))) b ≡ true → HasChosen test clocks b s ⊎ (contains (signals_bits (chosen test clocks ss)) b ≡ true)
chosen_here test clocks b s ss = by_input s.input refl
  where
    inputs : List Signal
    inputs = filter (λ x. x.input) ss

    others : List Signal
    others = chosen test clocks ss

    by_clock : (c : Bool) → not (contains clocks s.first) ≡ c → s.input ≡ true → test s ≡ true → contains (signals_bits (if c then s ∷ others else others)) b ≡ true → HasChosen test clocks b s ⊎ (contains (signals_bits others) b ≡ true)
    by_clock true other is passes h = elim (in_either (bits_of_signal s) (signals_bits others) b h) [
      | inl own ↦ inl (own, is, passes, other)
      | inr later ↦ inr later
    ]
    by_clock false other is passes h = inr h

    by_test : (t : Bool) → test s ≡ t → s.input ≡ true → contains (signals_bits (filter (λ x. not (contains clocks x.first)) (if t then s ∷ filter test inputs else filter test inputs))) b ≡ true
        → HasChosen test clocks b s ⊎ (contains (signals_bits others) b ≡ true)
    by_test true passes is h = by_clock (not (contains clocks s.first)) refl is passes h
    by_test false passes is h = inr h

    by_input : (i : Bool) → s.input ≡ i → contains (signals_bits (filter (λ x. not (contains clocks x.first)) (filter test (if i then s ∷ inputs else inputs)))) b ≡ true
        → HasChosen test clocks b s ⊎ (contains (signals_bits others) b ≡ true)
    by_input true is h = by_test (test s) refl is h
    by_input false is h = inr h

head_first : (test : Signal → Bool) (s : Signal) (ss : List Signal) → s.input ≡ true → test s ≡ true → contains (heads test (s ∷ ss)) s.first ≡ true
head_first test s ss is passes =
    let inputs = filter (λ (x : Signal). x.input) ss in
    ap (λ (i : Bool). contains (map (λ (x : Signal). x.first) (filter test (if i then s ∷ inputs else inputs))) s.first) is
    ∙ ap (λ (t : Bool). contains (map (λ (x : Signal). x.first) (if t then s ∷ filter test inputs else filter test inputs)) s.first) passes
    ∙ ap (λ (e : Bool). e || contains (heads test ss) s.first) (eq-eqb s.first s.first refl)

head_later : (test : Signal → Bool) (s : Signal) (ss : List Signal) (f : ℕ) → contains (heads test ss) f ≡ true → contains (heads test (s ∷ ss)) f ≡ true
head_later test s ss f h = by_input s.input
  where
    inputs : List Signal
    inputs = filter (λ x. x.input) ss

    by_test : (t : Bool) → contains (map (λ (x : Signal). x.first) (if t then s ∷ filter test inputs else filter test inputs)) f ≡ true
    by_test true = ap (λ (e : Bool). (f == s.first) || e) h ∙ or_true (f == s.first)
    by_test false = h

    by_input : (i : Bool) → contains (map (λ (x : Signal). x.first) (filter test (if i then s ∷ inputs else inputs))) f ≡ true
    by_input true = by_test (test s)
    by_input false = h

chosen_behind : (test : Signal → Bool) (clocks : List ℕ) (b base : ℕ) (ss : List Signal) → have_bits_from base ss ≡ true → contains (signals_bits (chosen test clocks ss)) b ≡ true → base ≤ b
chosen_behind test clocks b base [] h k = absurd (cc)
chosen_behind test clocks b base (s ∷ ss) h k =
    let at = first_is base s ss h in
    elim (chosen_here test clocks b s ss k) [
      | inl own ↦ omega (arith, at.0, count_low s.first (signal_length s) b own.0)
      | inr later ↦ let behind = chosen_behind test clocks b (base + signal_length s) ss at.1 later in omega (arith, behind)
    ]

-- signals behind the bit
past_held : (resets selects : List ℕ) (b base : ℕ) (ss : List Signal) → have_bits_from base ss ≡ true → b < base → AreHeld resets selects b ss
past_held resets selects b base [] h past = tt
past_held resets selects b base (s ∷ ss) h past =
    let at = first_is base s ss h in
    (inr (inl (omega (arith, at.0))), past_held resets selects b (base + signal_length s) ss at.1 (omega arith))

-- a chosen signal's bit is in no other signal
chosen_held : (resets selects : List ℕ) (test : Signal → Bool) (clocks : List ℕ) (b base : ℕ) (ss : List Signal) → have_bits_from base ss ≡ true → contains (signals_bits (chosen test clocks ss)) b ≡ true
    → ((f : ℕ) → contains (heads test ss) f ≡ true → contains selects f ≡ true) → AreHeld resets selects b ss
chosen_held resets selects test clocks b base [] h k on = tt
chosen_held resets selects test clocks b base (s ∷ ss) h k on =
    let at = first_is base s ss h in
    elim (chosen_here test clocks b s ss k) [
      | inl own ↦
          let here = on s.first (head_first test s ss own.1 own.2) in
          let high = count_high s.first (signal_length s) b own.0 in
          (inl (ap (λ (e : Bool). contains resets s.first || e) here ∙ or_true (contains resets s.first)), past_held resets selects b (base + signal_length s) ss at.1 (omega (arith, at.0, high)))
      | inr later ↦
          let behind = chosen_behind test clocks b (base + signal_length s) ss at.1 later in
          (inr (inr (omega (arith, at.0, behind))), chosen_held resets selects test clocks b (base + signal_length s) ss at.1 later (λ f i. on f (head_later test s ss f i)))
    ]

data_held : (resets selects : List ℕ) (clocks : List ℕ) (b : ℕ) (ss : List Signal) → AreHeld resets selects b ss → AreHeld resets selects b (filter (is_data_input clocks) ss)
data_held resets selects clocks b [] h = tt
data_held resets selects clocks b (s ∷ ss) h = by_test (is_data_input clocks s) (data_held resets selects clocks b ss h.1)
  where
    by_test : (t : Bool) → AreHeld resets selects b (filter (is_data_input clocks) ss) → AreHeld resets selects b (if t then s ∷ filter (is_data_input clocks) ss else filter (is_data_input clocks) ss)
    by_test true later = (h.0, later)
    by_test false later = later

-- its bits are data bits
chosen_driven : (test : Signal → Bool) (clocks : List ℕ) (b : ℕ) (ss : List Signal) → contains (signals_bits (chosen test clocks ss)) b ≡ true → contains (signals_bits (filter (is_data_input clocks) ss)) b ≡ true
chosen_driven test clocks b [] h = absurd (cc)
chosen_driven test clocks b (s ∷ ss) h =
    let those = filter (is_data_input clocks) ss in
    elim (chosen_here test clocks b s ss h) [
      | inl own ↦
          let is_data : is_data_input clocks s ≡ true = ap (λ (i : Bool). i && not (contains clocks s.first)) own.1 ∙ own.3 in
          subst (λ (e : Bool). contains (signals_bits (if e then s ∷ those else those)) b ≡ true) (sym is_data) (contains_front (bits_of_signal s) (signals_bits those) b own.0)
      | inr later ↦ skip_bit (is_data_input clocks s) s those b (chosen_driven test clocks b ss later)
    ]

-- a vector whose select inputs are known has known selects
selects_known : (d : Design) (names : List (List ℕ)) (a : IsAcceptedDesign d names) (inputs : List Input) (v : Vector) → AreDataInputs d (clock_bits a.clocks) inputs → sizes v ≡ lengths inputs → known_in_controls inputs v ≡ true
    → HasKnownSelects d (clock_bits a.clocks) (vector_state d (clock_bits a.clocks) v)
selects_known d names a inputs v h fits known = λ b selects.
    let clocks = (clock_bits a.clocks) in
    let test : Signal → Bool = λ s. contains (root_numbers d) s.number in
    let held = chosen_held (reset_inputs d clocks) (select_firsts d) test clocks b 0 d.signals a.lawful.bits_numbered selects (λ f i. i) in
    bit_known d names a inputs v h fits known b (data_held (reset_inputs d clocks) (select_firsts d) clocks b d.signals held) (chosen_driven test clocks b d.signals selects)

-- and so have all slots of such vectors
pub all_selects_known : (d : Design) (names : List (List ℕ)) (a : IsAcceptedDesign d names) (inputs : List Input) (vs : List Vector) → AreDataInputs d (clock_bits a.clocks) inputs
    → All (λ v. sizes v ≡ lengths inputs) vs → All (λ v. known_in_controls inputs v ≡ true) vs → (before : State) → AreKnownSelects d (clock_bits a.clocks) before (slots_of (map (vector_state d (clock_bits a.clocks)) vs))
all_selects_known d names a inputs [] h fits known before = tt
all_selects_known d names a inputs (v ∷ vs) h fits known before =
    let clocks = (clock_bits a.clocks) in
    let here = selects_known d names a inputs v h (fits 0 v (omega arith)) (known 0 v (omega arith)) in
    (here, (here, all_selects_known d names a inputs vs h (λ i x lt. fits (suc i) x (omega (arith, lt))) (λ i x lt. known (suc i) x (omega (arith, lt))) (vector_state d clocks v)))

-- ---- the first vector

controls_of_known : (is : List Input) (v : Vector) → vector_known v ≡ true → known_in_controls is v ≡ true
controls_of_known [] v h = refl
controls_of_known (i ∷ is) [] h = refl
controls_of_known (i ∷ is) (x ∷ v) h =
    let p = and_parts (all_known x) (vector_known v) h in
    ap (λ (k : Bool). (not (i.reset || i.select) || k) && known_in_controls is v) p.0
    ∙ ap (λ (k : Bool). k && known_in_controls is v) (or_true (not (i.reset || i.select)))
    ∙ controls_of_known is v p.1

-- the first vector, which is known, and those behind it
pub first_controls : (is : List Input) (first : Vector) (later : List Vector) → vector_known first ≡ true → All (λ v. known_in_controls is v ≡ true) later → All (λ v. known_in_controls is v ≡ true) (first ∷ later)
first_controls is first later known controls = All-cons (λ v. known_in_controls is v ≡ true) first later (controls_of_known is first known) controls
