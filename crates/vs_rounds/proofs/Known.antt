-- The first vector of a valid stimulus is known in every data input.
use Rattle.std.proofs.Common.{◌≡◌, ◌<◌, ◌≤◌, ◌+◌, ◌∙◌, ◌==◌, ◌&&◌, ◌||◌, ℕ, zero, suc, Bool, true, false, not, if◌then◌else◌, List, [], ◌∷◌, ◌++◌, length, map, filter, find, sum, sym, ap, refl, subst, arith, Some, inl, inr, ◌⊎◌, length-append, Option, None, nat_lt}
use Rattle.std.specs.Prelude.{sum_by}
use Rattle.std.proofs.lemmas.Bool.{and_parts, eqb-true}
use Rattle.std.proofs.lemmas.Bool.Decides.{nat_tests}
use Rattle.std.proofs.lemmas.Option.{same_Some}
use Rattle.std.proofs.lemmas.List.Sums.{sum_by-cons}
use Rattle.vs_rounds.proofs.Rereads.{either}
use Rattle.vs_four.specs.declared.Bit4.{Bit4}
use Rattle.vs_four.specs.declared.Bit4.TheVariants.{Zero, One, X, Z}
use Rattle.vs_four.specs.Tables.{is_known}
use Rattle.vs_four.specs.Logic.{BitList, map2}
use Rattle.vs_net.specs.Network.{State, put, write_all, kind, writes, AnInput}
use Rattle.vs_net.specs.Network as N
use Rattle.vs_net.specs.Lawful.{IsKnown}
use Rattle.vs_net.specs.Laws.{IsKnownVector}
use Rattle.std.specs.List.{list_any}
use Rattle.vs_design.specs.Expressions.{Signal, signal_length}
use Rattle.vs_design.specs.Clocks.{clock_bits, same_name, spare_clock, clock_inputs, and_inputs, named_input, named_inputs}
use Rattle.vs_design.specs.Statements.{Statement}
use Rattle.vs_design.specs.Designs.{Event, Design, Process, Continuous, Always, top_inputs, bit_count}
use Rattle.vs_design.specs.Values.{count_from, bits_of_signal}
use Rattle.vs_design.specs.Footprints.{contains, without, signals_bits, is_input}
use Rattle.vs_design.specs.Elaborated.{have_bits_from}
use Rattle.vs_design.specs.Resets.{reset_inputs}
use Rattle.vs_design.specs.Selects.{select_firsts}
use Rattle.vs_design.specs.Accepted.{IsAcceptedDesign}
use Rattle.vs_design.specs.Initials.{sole_bits}
use Rattle.vs_design.specs.Networks.{spare_clocks, process_of, block_process, writer_of, spare_writers, keeper_of, at_or_input, network_of}
use Rattle.vs_cone.specs.Given.{data_bits}
use Rattle.vs_stim.specs.declared.input.Input.{Input}
use Rattle.vs_stim.specs.Header.{lengths}
use Rattle.vs_stim.specs.Row.{sizes}
use Rattle.vs_stim.specs.Vectors.{all_known, vector_known}
use Rattle.vs_rounds.specs.Drives.{Vector, bits_of, write_to, vector_state}
use Rattle.vs_rounds.specs.Inputs.{is_data_input, input_of, AreDataInputs}
use Rattle.vs_rounds.proofs.Settled.{length-count_from}

-- ---- the bits of the data inputs

-- The signal is the one of this bit alone, or has not the bit.
abbrev pub IsApart : ℕ → Signal → Type 0
IsApart clock s = ((s.first ≡ clock) × (signal_length s ≡ 1)) ⊎ ((clock < s.first) ⊎ (s.first + signal_length s ≤ clock))

abbrev pub AreApart : ℕ → List Signal → Type 0
AreApart clock [] = Unit {0}
AreApart clock (s ∷ ss) = IsApart clock s × AreApart clock ss

pub first_is : (base : ℕ) (s : Signal) (ss : List Signal) → have_bits_from base (s ∷ ss) ≡ true → (s.first ≡ base) × (have_bits_from (base + signal_length s) ss ≡ true)
first_is base s ss h = let p = and_parts (s.first == base) (have_bits_from (base + signal_length s) ss) h in (eqb-true s.first base p.0, p.1)

pub apart_past : (clock base : ℕ) (ss : List Signal) → have_bits_from base ss ≡ true → clock < base → AreApart clock ss
apart_past clock base [] h past = tt
apart_past clock base (s ∷ ss) h past =
    let p = first_is base s ss h in
    (inr (inl (omega (arith, p.0))), apart_past clock (base + signal_length s) ss p.1 (omega arith))

found_behind : (p : Signal → Bool) (base : ℕ) (ss : List Signal) (c : Signal) → have_bits_from base ss ≡ true → find p ss ≡ Some c → base ≤ c.first
found_behind p base [] c h found = absurd (cc)
found_behind p base (s ∷ ss) c h found =
    let at = first_is base s ss h in
    elim (either (p s)) [
      | inl here ↦
          let is : s ≡ c = same_Some s c (subst (λ (b : Bool). (if b then Some s else find p ss) ≡ Some c) here found) in
          omega (arith, at.0, ap (λ (x : Signal). x.first) is)
      | inr other ↦
          let later : base + signal_length s ≤ c.first = found_behind p (base + signal_length s) ss c at.1 (subst (λ (b : Bool). (if b then Some s else find p ss) ≡ Some c) other found) in
          omega arith
    ]

apart : (p : Signal → Bool) (clock base : ℕ) (ss : List Signal) (c : Signal) → have_bits_from base ss ≡ true → find p ss ≡ Some c → c.first ≡ clock → ((s : Signal) → p s ≡ true → signal_length s ≡ 1) → AreApart clock ss
apart p clock base [] c h found is one = tt
apart p clock base (s ∷ ss) c h found is one =
    let at = first_is base s ss h in
    elim (either (p s)) [
      | inl here ↦
          let same : s ≡ c = same_Some s c (subst (λ (b : Bool). (if b then Some s else find p ss) ≡ Some c) here found) in
          let first : s.first ≡ clock = ap (λ (x : Signal). x.first) same ∙ is in
          (inl (first, one s here), apart_past clock (base + signal_length s) ss at.1 (omega (arith, one s here, at.0)))
      | inr other ↦
          let found_later : find p ss ≡ Some c = subst (λ (b : Bool). (if b then Some s else find p ss) ≡ Some c) other found in
          let behind = found_behind p (base + signal_length s) ss c at.1 found_later in
          (inr (inr (omega (arith, at.0))), apart p clock (base + signal_length s) ss c at.1 found_later is one)
    ]

kept_append : (keeps : Bool) (x : ℕ) (xs ys : List ℕ) → (if keeps then x ∷ (xs ++ ys) else (xs ++ ys)) ≡ (if keeps then x ∷ xs else xs) ++ ys
kept_append true x xs ys = refl
kept_append false x xs ys = refl

without_append : (clocks : List ℕ) (xs ys : List ℕ) → without (xs ++ ys) clocks ≡ without xs clocks ++ without ys clocks
without_append clocks [] ys = refl
without_append clocks (x ∷ xs) ys =
    let keeps = not (contains clocks x) in
    ap (λ (rest : List ℕ). if keeps then x ∷ rest else rest) (without_append clocks xs ys) ∙ kept_append keeps x (without xs clocks) (without ys clocks)

without_none : (clocks : List ℕ) (first count : ℕ) → ((b : ℕ) → first ≤ b → b < first + count → contains clocks b ≡ false) → without (count_from first count) clocks ≡ count_from first count
without_none clocks first zero h = refl
without_none clocks first (suc count) h =
    let rest = without_none clocks (suc first) count (λ b l k. h b (omega (arith, l)) (omega (arith, k))) in
    ap (λ (b : Bool). if not b then first ∷ without (count_from (suc first) count) clocks else without (count_from (suc first) count) clocks) (h first (omega arith) (omega arith))
    ∙ ap (λ (bs : List ℕ). first ∷ bs) rest

signal_bits_are : (clocks : List ℕ) (s : Signal) → ((c : ℕ) → contains clocks c ≡ true → IsApart c s) → without (bits_of_signal s) clocks ≡ (if not (contains clocks s.first) then bits_of_signal s else [])
signal_bits_are clocks s h = elim (either (contains clocks s.first)) [
  | inl same ↦ here same (h s.first same) ∙ sym (ap (λ (b : Bool). if not b then bits_of_signal s else []) same)
  | inr other ↦ without_none clocks s.first (signal_length s) (λ b l k. apart_from other b l k) ∙ sym (ap (λ (b : Bool). if not b then bits_of_signal s else []) other)
]
  where
    here : contains clocks s.first ≡ true → IsApart s.first s → without (bits_of_signal s) clocks ≡ []
    here same (inl one) = ap (λ (n : ℕ). without (count_from s.first n) clocks) one.1 ∙ ap (λ (b : Bool). if not b then s.first ∷ [] else []) same
    here same (inr (inl below)) = absurd (omega (arith, below))
    here same (inr (inr above)) = let empty : signal_length s ≡ 0 = omega (arith, above) in ap (λ (n : ℕ). without (count_from s.first n) clocks) empty

    apart_from : contains clocks s.first ≡ false → (b : ℕ) → s.first ≤ b → b < s.first + signal_length s → contains clocks b ≡ false
    apart_from other b l k = elim (either (contains clocks b)) [
      | inl has ↦ elim (h b has) [
        | inl at ↦ sym (ap (contains clocks) at.0) ∙ other
        | inr off ↦ elim off [ inl below ↦ absurd (omega (arith, below, l)) | inr above ↦ absurd (omega (arith, above, k)) ]
      ]
      | inr none ↦ none
    ]

joined : (b : Bool) (s : Signal) (ss : List Signal) → (if b then bits_of_signal s else []) ++ signals_bits ss ≡ signals_bits (if b then s ∷ ss else ss)
joined true s ss = refl
joined false s ss = refl

bits_step : (clocks : List ℕ) (s : Signal) (ss : List Signal) (i : Bool) → s.input ≡ i → ((c : ℕ) → contains clocks c ≡ true → IsApart c s) → without (signals_bits (filter is_input ss)) clocks ≡ signals_bits (filter (is_data_input clocks) ss)
    → without (signals_bits (filter is_input (s ∷ ss))) clocks ≡ signals_bits (filter (is_data_input clocks) (s ∷ ss))
bits_step clocks s ss true is h rest =
    let others = filter is_input ss in
    let those = filter (is_data_input clocks) ss in
    ap (λ (b : Bool). without (signals_bits (if b then s ∷ others else others)) clocks) is
    ∙ without_append clocks (bits_of_signal s) (signals_bits others)
    ∙ ap (λ (bs : List ℕ). bs ++ without (signals_bits others) clocks) (signal_bits_are clocks s h)
    ∙ ap (λ (bs : List ℕ). (if not (contains clocks s.first) then bits_of_signal s else []) ++ bs) rest
    ∙ joined (not (contains clocks s.first)) s those
    ∙ sym (ap (λ (b : Bool). signals_bits (if b && not (contains clocks s.first) then s ∷ those else those)) is)
bits_step clocks s ss false is h rest =
    let others = filter is_input ss in
    let those = filter (is_data_input clocks) ss in
    ap (λ (b : Bool). without (signals_bits (if b then s ∷ others else others)) clocks) is
    ∙ rest
    ∙ sym (ap (λ (b : Bool). signals_bits (if b && not (contains clocks s.first) then s ∷ those else those)) is)

bits_are : (clocks : List ℕ) (ss : List Signal) → ((c : ℕ) → contains clocks c ≡ true → AreApart c ss) → without (signals_bits (filter is_input ss)) clocks ≡ signals_bits (filter (is_data_input clocks) ss)
bits_are clocks [] h = refl
bits_are clocks (s ∷ ss) h = bits_step clocks s ss s.input refl (λ c k. (h c k).0) (bits_are clocks ss (λ c k. (h c k).1))

one_bit : (name : List ℕ) (s : Signal) → (s.input && same_name s.name name && (signal_length s == 1)) ≡ true → signal_length s ≡ 1
one_bit name s h = eqb-true (signal_length s) 1 (and_parts (s.input && same_name s.name name) (signal_length s == 1) h).1

-- all signals lie below a clock that isn't one of the design's bits
all_before : (clock base : ℕ) (ss : List Signal) → have_bits_from base ss ≡ true → base + sum_by signal_length ss ≤ clock → AreApart clock ss
all_before clock base [] h past = tt
all_before clock base (s ∷ ss) h past =
    let at = first_is base s ss h in
    let total = sum_by-cons signal_length s ss in
    (inr (inr (omega (arith, at.0, total, past))), all_before clock (base + signal_length s) ss at.1 (omega (arith, total, past)))

same_list : (xs ys : List Signal) → Some xs ≡ Some ys → xs ≡ ys
same_list xs ys e = cc

-- each clock is a signal of one bit
names_apart : (d : Design) → have_bits_from 0 d.signals ≡ true → (names : List (List ℕ)) (ss : List Signal) → named_inputs d names ≡ Some ss → (c : ℕ) → contains (clock_bits ss) c ≡ true → AreApart c d.signals
names_apart d h [] ss found c k = absurd (let e : false ≡ true = subst (λ (xs : List Signal). contains (clock_bits xs) c ≡ true) (sym (same_list [] ss found)) k in cc)
names_apart d h (name ∷ names) ss found c k = by_twice (list_any (same_name name) names) refl (λ more rest has. names_apart d h names more rest c has)
  where
    split : (o : Option Signal) → named_input d name ≡ o → (q : Option (List Signal)) → named_inputs d names ≡ q → and_inputs o q ≡ Some ss → ((more : List Signal) → named_inputs d names ≡ Some more → contains (clock_bits more) c ≡ true → AreApart c d.signals) → AreApart c d.signals
    split None first q rest e later = absurd (cc)
    split (Some s) first None rest e later = absurd (cc)
    split (Some s) first (Some more) rest e later =
        let has : ((c == s.first) || contains (clock_bits more) c) ≡ true = subst (λ (xs : List Signal). contains (clock_bits xs) c ≡ true) (sym (same_list (s ∷ more) ss e)) k in
        elim (either (c == s.first)) [
          | inl at ↦ apart (λ s. s.input && same_name s.name name && (signal_length s == 1)) c 0 d.signals s h first (sym (eqb-true c s.first at)) (one_bit name)
          | inr other ↦ later more rest (subst (λ (b : Bool). (b || contains (clock_bits more) c) ≡ true) other has)
        ]

    by_twice : (t : Bool) → list_any (same_name name) names ≡ t → ((more : List Signal) → named_inputs d names ≡ Some more → contains (clock_bits more) c ≡ true → AreApart c d.signals) → AreApart c d.signals
    by_twice true t later = absurd (let e : None ≡ Some ss = subst (λ (b : Bool). (if b then None else and_inputs (named_input d name) (named_inputs d names)) ≡ Some ss) t found in cc)
    by_twice false t later = split (named_input d name) refl (named_inputs d names) refl (subst (λ (b : Bool). (if b then None else and_inputs (named_input d name) (named_inputs d names)) ≡ Some ss) t found) later

-- each clock is a signal of one bit, or none of the design's
clocks_apart : (d : Design) (names : List (List ℕ)) (ss : List Signal) → have_bits_from 0 d.signals ≡ true → clock_inputs d names ≡ Some ss → (c : ℕ) → contains (clock_bits ss) c ≡ true → AreApart c d.signals
clocks_apart d [] ss h found c k =
    let has : ((c == bit_count d) || false) ≡ true = subst (λ (xs : List Signal). contains (clock_bits xs) c ≡ true) (sym (same_list (spare_clock d ∷ []) ss found)) k in
    elim (either (c == bit_count d)) [
      | inl at ↦ all_before c 0 d.signals h (let is = eqb-true c (bit_count d) at in omega (arith, is))
      | inr other ↦ absurd (let e : false ≡ true = subst (λ (b : Bool). (b || false) ≡ true) other has in cc)
    ]
clocks_apart d (name ∷ names) ss h found c k = names_apart d h (name ∷ names) ss found c k

-- the data bits are the bits of the data inputs
pub data_bits_are : (d : Design) (names : List (List ℕ)) (a : IsAcceptedDesign d names) → data_bits d (clock_bits a.clocks) ≡ signals_bits (filter (is_data_input (clock_bits a.clocks)) d.signals)
data_bits_are d names a = bits_are (clock_bits a.clocks) d.signals (clocks_apart d names a.clocks a.lawful.bits_numbered a.clocks_found)

inputs_sum : (resets selects : List ℕ) (ss : List Signal) → sum (lengths (map (input_of resets selects) ss)) ≡ length (signals_bits ss)
inputs_sum resets selects [] = refl
inputs_sum resets selects (s ∷ ss) =
    let rest = inputs_sum resets selects ss in
    let first = length-count_from s.first (signal_length s) in
    sum_by-cons (λ x. x) (signal_length s) (lengths (map (input_of resets selects) ss)) ∙ omega (arith, length-append (bits_of_signal s) (signals_bits ss))

pub inputs_fit : (d : Design) (names : List (List ℕ)) (a : IsAcceptedDesign d names) (inputs : List Input) → AreDataInputs d (clock_bits a.clocks) inputs → sum (lengths inputs) ≡ length (data_bits d (clock_bits a.clocks))
inputs_fit d names a inputs h =
    ap (λ (is : List Input). sum (lengths is)) h.inputs_are
    ∙ inputs_sum (reset_inputs d (clock_bits a.clocks)) (select_firsts d) (filter (is_data_input (clock_bits a.clocks)) d.signals) ∙ ap length (sym (data_bits_are d names a))

-- ---- the bits of a vector

pub bits_long : (v : Vector) → length (bits_of v) ≡ sum (sizes v)
bits_long [] = refl
bits_long (x ∷ v) = let rest = bits_long v in omega (arith, length-append x (bits_of v), sum_by-cons (λ n. n) (length x) (sizes v))

known_append : (a b : BitList) → all_known a ≡ true → all_known b ≡ true → all_known (a ++ b) ≡ true
known_append [] b h k = k
known_append (x ∷ a) b h k = let p = and_parts (is_known x) (all_known a) h in ap (λ (y : Bool). y && all_known (a ++ b)) p.0 ∙ known_append a b p.1 k

bits_known : (v : Vector) → vector_known v ≡ true → all_known (bits_of v) ≡ true
bits_known [] h = refl
bits_known (x ∷ v) h = let p = and_parts (all_known x) (vector_known v) h in known_append x (bits_of v) p.0 (bits_known v p.1)

pub known_bit : (x : Bit4) → is_known x ≡ true → IsKnown x
known_bit Zero h = inl refl
known_bit One h = inr refl
known_bit X h = absurd (cc)
known_bit Z h = absurd (cc)

put_known : (s : State) (c : ℕ) (x : Bit4) (b : ℕ) (e : Bool) → (b == c) ≡ e → IsKnown x → ((e ≡ false) → IsKnown (s b)) → IsKnown (put s c x b)
put_known s c x b true is known other = subst (λ (e : Bool). IsKnown (if e then x else s b)) (sym is) known
put_known s c x b false is known other = subst (λ (e : Bool). IsKnown (if e then x else s b)) (sym is) (other refl)

next_known : (c : ℕ) (x : Bit4) (bs : List ℕ) (s : State) (b : ℕ) (e : Bool) → (b == c) ≡ e → IsKnown x → (contains (c ∷ bs) b ≡ true) ⊎ IsKnown (s b) → (contains bs b ≡ true) ⊎ IsKnown (put s c x b)
next_known c x bs s b true is known h = inr (put_known s c x b true is known (λ no. absurd (cc)))
next_known c x bs s b false is known (inl h) = inl (subst (λ (e : Bool). (e || contains bs b) ≡ true) is h)
next_known c x bs s b false is known (inr h) = inr (put_known s c x b false is known (λ _. h))

written_known : (bs : List ℕ) (xs : BitList) (s : State) (b : ℕ) → length bs ≡ length xs → all_known xs ≡ true → (contains bs b ≡ true) ⊎ IsKnown (s b) → IsKnown (write_all s (map2 write_to bs xs) b)
unfolding write_all
written_known [] [] s b long known (inl h) = absurd (cc)
written_known [] [] s b long known (inr h) = h
written_known [] (x ∷ xs) s b long known h = absurd (omega arith)
written_known (c ∷ bs) [] s b long known h = absurd (omega arith)
written_known (c ∷ bs) (x ∷ xs) s b long known h =
    let p = and_parts (is_known x) (all_known xs) known in
    written_known bs xs (put s c x) b (omega arith) p.1 (next_known c x bs s b (b == c) refl (known_bit x p.0) h)

-- ---- the inputs of the network

pub or_true : (b : Bool) → (b || true) ≡ true
or_true true = refl
or_true false = refl

contains_append : (xs ys : List ℕ) (b : ℕ) → contains ys b ≡ true → contains (xs ++ ys) b ≡ true
contains_append [] ys b h = h
contains_append (x ∷ xs) ys b h = ap (λ (e : Bool). (b == x) || e) (contains_append xs ys b h) ∙ or_true (b == x)

front_case : (e f g : Bool) → (e || f) ≡ true → (f ≡ true → g ≡ true) → (e || g) ≡ true
front_case true f g h k = refl
front_case false f g h k = k h

pub contains_front : (xs ys : List ℕ) (b : ℕ) → contains xs b ≡ true → contains (xs ++ ys) b ≡ true
contains_front [] ys b h = absurd (cc)
contains_front (x ∷ xs) ys b h = front_case (b == x) (contains xs b) (contains (xs ++ ys) b) h (contains_front xs ys b)

-- a process of the design is no input
no_block : (d : Design) (clocks : List ℕ) (b : Bool) (p : Process) (events : List Event) (statement : Statement) → kind (block_process d clocks b p events statement) ≡ AnInput → ⊥
no_block d clocks true p events statement h = cc
no_block d clocks false p events statement h = cc

no_input : (d : Design) (clocks : List ℕ) (p : Process) → kind (process_of d clocks p) ≡ AnInput → ⊥
no_input d clocks (Continuous place port target_place target e) h = cc
no_input d clocks (Always place star events statement) h = no_block d clocks _ _ _ _ h

input_bit : (clocks : List ℕ) (s : Signal) (ss : List Signal) (b : ℕ) (e : Bool) → (contains clocks s.first) ≡ e → kind (if e then N.Clock s.first else N.Input (bits_of_signal s)) ≡ AnInput → writes (if e then N.Clock s.first else N.Input (bits_of_signal s)) b ≡ true
    → contains (signals_bits (if not e then s ∷ ss else ss)) b ≡ true
input_bit clocks s ss b true is k w = absurd (cc)
input_bit clocks s ss b false is k w = contains_front (bits_of_signal s) (signals_bits ss) b w

pub skip_bit : (e : Bool) (s : Signal) (ss : List Signal) (b : ℕ) → contains (signals_bits ss) b ≡ true → contains (signals_bits (if e then s ∷ ss else ss)) b ≡ true
skip_bit true s ss b h = contains_append (bits_of_signal s) (signals_bits ss) b h
skip_bit false s ss b h = h

at_place : (clocks : List ℕ) (spare : List N.Process) (s : Signal) (ss others : List Signal) (p b : ℕ) → let process = at_or_input (map (writer_of clocks) (s ∷ others) ++ spare) p in kind process ≡ AnInput → writes process b ≡ true
    → ((q : ℕ) → let other = at_or_input (map (writer_of clocks) others ++ spare) q in kind other ≡ AnInput → writes other b ≡ true → contains (signals_bits ss) b ≡ true)
    → contains (signals_bits (if not (contains clocks s.first) then s ∷ ss else ss)) b ≡ true
at_place clocks spare s ss others zero b k w rest = input_bit clocks s ss b (contains clocks s.first) refl k w
at_place clocks spare s ss others (suc p) b k w rest = skip_bit (not (contains clocks s.first)) s ss b (rest p k w)

at_signal : (clocks : List ℕ) (spare : List N.Process) (s : Signal) (ss : List Signal) (p b : ℕ) (i : Bool) → s.input ≡ i
    → let process = at_or_input (map (writer_of clocks) (filter (λ s. s.input) (s ∷ ss)) ++ spare) p in kind process ≡ AnInput → writes process b ≡ true
    → ((q : ℕ) → let other = at_or_input (map (writer_of clocks) (filter (λ s. s.input) ss) ++ spare) q in kind other ≡ AnInput → writes other b ≡ true → contains (signals_bits (filter (is_data_input clocks) ss)) b ≡ true)
    → contains (signals_bits (filter (is_data_input clocks) (s ∷ ss))) b ≡ true
at_signal clocks spare s ss p b true is k w rest =
    let inputs = filter (λ (x : Signal). x.input) ss in
    let those = filter (is_data_input clocks) ss in
    let at = λ (i : Bool). at_or_input (map (writer_of clocks) (if i then s ∷ inputs else inputs) ++ spare) p in
    subst (λ (i : Bool). contains (signals_bits (if i && not (contains clocks s.first) then s ∷ those else those)) b ≡ true) (sym is)
    (at_place clocks spare s those inputs p b (subst (λ (i : Bool). kind (at i) ≡ AnInput) is k) (subst (λ (i : Bool). writes (at i) b ≡ true) is w) rest)
at_signal clocks spare s ss p b false is k w rest =
    let inputs = filter (λ (x : Signal). x.input) ss in
    let those = filter (is_data_input clocks) ss in
    let at = λ (i : Bool). at_or_input (map (writer_of clocks) (if i then s ∷ inputs else inputs) ++ spare) p in
    subst (λ (i : Bool). contains (signals_bits (if i && not (contains clocks s.first) then s ∷ those else those)) b ≡ true) (sym is)
    (rest p (subst (λ (i : Bool). kind (at i) ≡ AnInput) is k) (subst (λ (i : Bool). writes (at i) b ≡ true) is w))

no_keeper : (clocks : List ℕ) (ks : List ℕ) (p : ℕ) → kind (at_or_input (keeper_of clocks ks) p) ≡ AnInput → (b : ℕ) → writes (at_or_input (keeper_of clocks ks) p) b ≡ true → ⊥
no_keeper clocks [] p k b w = cc
no_keeper clocks (c ∷ ks) zero k b w = cc
no_keeper clocks (c ∷ ks) (suc p) k b w = cc

at_inputs : (d : Design) (clocks : List ℕ) (ss : List Signal) (p b : ℕ) → let process = at_or_input (map (writer_of clocks) (filter (λ s. s.input) ss) ++ (spare_writers d clocks ++ keeper_of clocks (sole_bits d))) p in kind process ≡ AnInput → writes process b ≡ true
    → contains (signals_bits (filter (is_data_input clocks) ss)) b ≡ true
at_inputs d clocks [] p b k w = absurd (no_spare (spare_clocks d clocks) p k w)
  where
    no_spare : (cs : List ℕ) (p : ℕ) → let process = at_or_input (map N.Clock cs ++ keeper_of clocks (sole_bits d)) p in kind process ≡ AnInput → writes process b ≡ true → ⊥
    no_spare [] p k w = no_keeper clocks (sole_bits d) p k b w
    no_spare (c ∷ cs) zero k w = cc
    no_spare (c ∷ cs) (suc p) k w = no_spare cs p k w
at_inputs d clocks (s ∷ ss) p b k w = at_signal clocks (spare_writers d clocks ++ keeper_of clocks (sole_bits d)) s ss p b s.input refl k w (λ q. at_inputs d clocks ss q b)

at_process : (d : Design) (clocks : List ℕ) (ps : List Process) (others : List N.Process) (p b : ℕ) (P : Type 0) → let process = at_or_input (map (process_of d clocks) ps ++ others) p in kind process ≡ AnInput → writes process b ≡ true
    → ((q : ℕ) → kind (at_or_input others q) ≡ AnInput → writes (at_or_input others q) b ≡ true → P) → P
at_process d clocks [] others p b P k w rest = rest p k w
at_process d clocks (x ∷ ps) others zero b P k w rest = absurd (no_input d clocks x k)
at_process d clocks (x ∷ ps) others (suc p) b P k w rest = at_process d clocks ps others p b P k w rest

-- an input's bits are data bits
pub input_bits_are : (d : Design) (names : List (List ℕ)) (a : IsAcceptedDesign d names) (p b : ℕ) → let process = (network_of d (clock_bits a.clocks)).process p in kind process ≡ AnInput → writes process b ≡ true → contains (data_bits d (clock_bits a.clocks)) b ≡ true
input_bits_are d names a p b k w =
    subst (λ (bs : List ℕ). contains bs b ≡ true) (sym (data_bits_are d names a))
    (at_process d (clock_bits a.clocks) d.processes (map (writer_of (clock_bits a.clocks)) (top_inputs d) ++ (spare_writers d (clock_bits a.clocks) ++ keeper_of (clock_bits a.clocks) (sole_bits d))) p b (contains (signals_bits (filter (is_data_input (clock_bits a.clocks)) d.signals)) b ≡ true) k w (λ q. at_inputs d (clock_bits a.clocks) d.signals q b))

-- a known vector of the inputs' lengths is known in every input
pub vector_is_known : (d : Design) (names : List (List ℕ)) (a : IsAcceptedDesign d names) (inputs : List Input) (v : Vector) → AreDataInputs d (clock_bits a.clocks) inputs → sizes v ≡ lengths inputs → vector_known v ≡ true
    → IsKnownVector (network_of d (clock_bits a.clocks)) (vector_state d (clock_bits a.clocks) v)
vector_is_known d names a inputs v h fits known = λ p b k w.
    written_known (data_bits d (clock_bits a.clocks)) (bits_of v) (λ b. X) b (sym (bits_long v ∙ ap sum fits ∙ inputs_fit d names a inputs h)) (bits_known v known) (inl (input_bits_are d names a p b k w))
