-- The vectors of a valid stimulus are what a run asks of them.
use Rattle.std.proofs.Common.{◌≡◌, ◌≤◌, ◌-◌, ◌∙◌, ◌==◌, ◌&&◌, ◌||◌, ℕ, suc, Bool, true, false, not, if◌then◌else◌, List, [], ◌∷◌, length, map, filter, sym, ap, refl, subst, arith, Option, Some, None, All, nat_lt, nat_le}
use Rattle.std.specs.Prelude.{is_some}
use Rattle.std.specs.List.{list_all}
use Rattle.std.proofs.lemmas.Bool.{and_parts}
use Rattle.std.proofs.lemmas.Option.{same_Some}
use Rattle.std.proofs.lemmas.List.Elements.{All-cons, All-nil}
use Rattle.vs_four.specs.declared.Range.{Range}
use Rattle.vs_four.specs.Selects.{range_length, is_descending}
use Rattle.vs_net.specs.Laws.{IsKnownVector, AreKnownResets}
use Rattle.vs_design.specs.Clocks.{clock_bits}
use Rattle.vs_net.specs.Network.{State}
use Rattle.vs_net.specs.Queue.{slots_of}
use Rattle.vs_design.specs.Laws.{AreKnownSelects}
use Rattle.vs_design.specs.Expressions.{Signal, range_or_one, words_length, signal_length, addresses}
use Rattle.vs_design.specs.Designs.{Design}
use Rattle.vs_design.specs.Elaborated.{is_lawful_range, is_declared, are_lawful_words, is_array_net, is_lawful_memory}
use Rattle.vs_design.specs.Footprints.{contains, is_memory, is_variable}
use Rattle.vs_design.specs.Networks.{network_of}
use Rattle.vs_design.specs.Resets.{reset_inputs}
use Rattle.vs_design.specs.Selects.{select_firsts}
use Rattle.vs_design.specs.Accepted.{IsAcceptedDesign}
use Rattle.vs_clock.specs.Clocked.{Clocked}
use Rattle.vs_queue.specs.Driven.{AreVectors}
use Rattle.vs_queue.specs.Machines.{IsAcceptedBy}
use Rattle.vs_stim.specs.Header.{IsInput, lengths}
use Rattle.vs_rounds.specs.Drives.{Vector, vector_state}
use Rattle.vs_rounds.specs.Inputs.{AreDataInputs, data_inputs, input_of, inputs_among, is_data_input}
use Rattle.vs_rounds.proofs.Known.{vector_is_known}
use Rattle.vs_rounds.proofs.Resets.{all_resets_known, all_selects_known, first_controls}
use Rattle.vs_ordered.specs.Traced.{AreSized, AreValid}
use Rattle.vs_ordered.proofs.Giving.{vectors_given}

-- ---- data inputs of 1 to 64 bits

one_or_more : (r : Option Range) → 1 ≤ range_or_one r
one_or_more None = omega arith
one_or_more (Some r) = by (is_descending r)
  where
    by : (down : Bool) → 1 ≤ (if down then suc (r.left - r.right) else suc (r.right - r.left))
    by true = omega arith
    by false = omega arith

le_of : (m n : ℕ) → nat_le m n ≡ true → m ≤ n
le_of m n h = grind arith

at_most_64 : (r : Option Range) → is_lawful_range r ≡ true → range_or_one r ≤ 64
at_most_64 None h = omega arith
at_most_64 (Some r) h = le_of (range_length r) 64 (and_parts (nat_le r.left 65535 && nat_le r.right 65535) (nat_le (range_length r) 64) h).1

few_bits : (d : Design) (s : Signal) → is_declared d s ≡ true → range_or_one s.range ≤ 64
few_bits d s h =
    let first = (and_parts (nat_lt s.scope (length d.scopes) && is_lawful_range s.range) (not s.input || (s.net && (s.scope == 0))) h).0 in
    at_most_64 s.range (and_parts (nat_lt s.scope (length d.scopes)) (is_lawful_range s.range) first).1

-- a memory is no input
plain_input : (s : Signal) → is_lawful_memory s ≡ true → s.input ≡ true → signal_length s ≡ range_or_one s.range
plain_input s h e = long s.words (none (is_some s.words) s.net s.input (range_length (addresses s) == 1) (and_parts (are_lawful_words s.words) (not (is_memory s) || (is_variable s || is_array_net s)) h).1 e)
  where
    none : (memory net input one : Bool) → (not memory || ((not net && not input) || (net && not input && one))) ≡ true → input ≡ true → memory ≡ false
    none false net input one h e = refl
    none true net false one h e = cc
    none true true true one h e = cc
    none true false true one h e = cc

    long : (words : Option Range) → is_some words ≡ false → words_length words (range_or_one s.range) ≡ range_or_one s.range
    long None e = refl
    long (Some r) e = cc

an_input : (d : Design) (resets selects : List ℕ) (clocks : List ℕ) (s : Signal) → is_declared d s ≡ true → is_lawful_memory s ≡ true → is_data_input clocks s ≡ true → IsInput (input_of resets selects s)
an_input d resets selects clocks s declared memory input =
    let long = plain_input s memory (and_parts s.input (not (contains clocks s.first)) input).0 in
    record { some = omega (arith, long, one_or_more s.range); at_most_64 = omega (arith, long, few_bits d s declared) }

inputs_of : (d : Design) (resets selects : List ℕ) (clocks : List ℕ) (ss : List Signal) → list_all (is_declared d) ss ≡ true → list_all is_lawful_memory ss ≡ true → All IsInput (inputs_among resets selects clocks ss)
inputs_of d resets selects clocks [] h m = All-nil IsInput
inputs_of d resets selects clocks (s ∷ ss) h m =
    let declared = and_parts (is_declared d s) (list_all (is_declared d) ss) h in
    let memories = and_parts (is_lawful_memory s) (list_all is_lawful_memory ss) m in
    here (is_data_input clocks s) (λ input. an_input d resets selects clocks s declared.0 memories.0 input) (inputs_of d resets selects clocks ss declared.1 memories.1)
  where
    here : (c : Bool) → (c ≡ true → IsInput (input_of resets selects s)) → All IsInput (inputs_among resets selects clocks ss)
        → All IsInput (map (input_of resets selects) (if c then (s ∷ filter (is_data_input clocks) ss) else filter (is_data_input clocks) ss))
    here true few others = All-cons IsInput (input_of resets selects s) (inputs_among resets selects clocks ss) (few refl) others
    here false few others = others

are_inputs : (d : Design) (names : List (List ℕ)) (a : IsAcceptedDesign d names) → AreDataInputs d (clock_bits a.clocks) (data_inputs d (clock_bits a.clocks))
are_inputs d names a = record { each = inputs_of d (reset_inputs d (clock_bits a.clocks)) (select_firsts d) (clock_bits a.clocks) d.signals a.lawful.declared a.lawful.memories; inputs_are = refl }

-- ---- the clocks that were found

pub clocks_are : (d : Design) (c : Clocked) (h : IsAcceptedBy d c) → (clock_bits h.accepted.clocks) ≡ c.bits
clocks_are d c h = ap clock_bits (same_Some h.accepted.clocks h.clocks.signals (sym h.accepted.clocks_found ∙ h.clocks.are)) ∙ sym h.clocks.bits_are

-- vectors of the inputs' lengths can be driven
abbrev AreDriven : Design → List Vector → List ℕ → Type 0
AreDriven d vectors clocks = AreSized d clocks vectors → AreVectors d clocks vectors (map (vector_state d clocks) vectors)

pub all_given : (d : Design) (c : Clocked) → IsAcceptedBy d c → (vectors : List Vector) → AreSized d c.bits vectors → AreVectors d c.bits vectors (map (vector_state d c.bits) vectors)
all_given d c h vectors = subst (AreDriven d vectors) (clocks_are d c h) (vectors_given d h.names h.accepted vectors)

-- those of a valid stimulus give values that are known as a run asks for it
pub record IsAsked (d : Design) (vectors : List Vector) (first : Vector) (later : List Vector) (clocks : List ℕ) : Type 0 where
  pub given : AreVectors d clocks vectors (vector_state d clocks first ∷ map (vector_state d clocks) later)
  pub known : IsKnownVector (network_of d clocks) (vector_state d clocks first)
  pub resets : AreKnownResets (network_of d clocks) (map (vector_state d clocks) later)
  pub selects : (before : State) → AreKnownSelects d clocks before (slots_of (vector_state d clocks first ∷ map (vector_state d clocks) later))

asked : (d : Design) (names : List (List ℕ)) (a : IsAcceptedDesign d names) (vectors : List Vector) (first : Vector) (later : List Vector)
    → AreSized d (clock_bits a.clocks) vectors → AreValid d (clock_bits a.clocks) vectors first later → IsAsked d vectors first later (clock_bits a.clocks)
asked d names a vectors first later sized valid =
    let clocks = (clock_bits a.clocks) in
    let inputs = data_inputs d clocks in
    let fits : AreSized d clocks (first ∷ later) = subst (AreSized d clocks) valid.vectors_are sized in
    record {
      given = subst (λ (vs : List Vector). AreVectors d clocks vs (vector_state d clocks first ∷ map (vector_state d clocks) later)) (sym valid.vectors_are) (vectors_given d names a (first ∷ later) fits);
      known = vector_is_known d names a inputs first (are_inputs d names a) (fits 0 first (omega arith)) valid.known;
      resets = all_resets_known d names a inputs later (are_inputs d names a) (λ k v h. fits (suc k) v (omega (arith, h))) valid.controls;
      selects = λ before. all_selects_known d names a inputs (first ∷ later) (are_inputs d names a) fits (first_controls inputs first later valid.known valid.controls) before;
    }

abbrev Asks : Design → List Vector → Vector → List Vector → List ℕ → Type 0
Asks d vectors first later clocks = AreSized d clocks vectors → AreValid d clocks vectors first later → IsAsked d vectors first later clocks

pub all_asked : (d : Design) (c : Clocked) → IsAcceptedBy d c → (vectors : List Vector) (first : Vector) (later : List Vector) → AreSized d c.bits vectors → AreValid d c.bits vectors first later → IsAsked d vectors first later c.bits
all_asked d c h vectors first later = subst (Asks d vectors first later) (clocks_are d c h) (asked d h.names h.accepted vectors first later)
