use Rattle.std.proofs.Common.{◌≡◌, ℕ, zero, suc, refl, ◌+◌, ◌*◌, List, [], ◌∷◌, ◌++◌, length, sym, ap, ◌∙◌, append_assoc, append-nil, arith}
use Rattle.vs_net.specs.Network.{State}
use Rattle.vs_design.specs.Designs.{Design}
use Rattle.vs_vcd.specs.Scopes.{shown_signals}
use Rattle.vs_vcd.specs.Texts.{shown_numbers, values_of, first_text, slot_text, later_slots, slot_texts}
use Rattle.std.specs.Prelude.{map}
use Rattle.std.proofs.lemmas.List.{length-map}
use Rattle.vs_design.specs.Expressions.{Signal, signal_length}
use Rattle.vs_design.specs.Values.{count_from, bits_of_signal, read}
use Rattle.vs_vcd.proofs.laws.parts_law.Goals as goal

-- a slot more, after slot k and some others
later_slots-append : (d : Design) (half k : ℕ) (start : State) (ends : List State) (before now : State)
    → later_slots d half k start (ends ++ before ∷ now ∷ []) ≡ later_slots d half k start (ends ++ before ∷ []) ++ slot_text (shown_numbers d) (suc (k + length ends) * half) (values_of d before) (values_of d now)
later_slots-append d half k start [] before now =
    let e : k + 0 ≡ k = omega arith in
    let s : ℕ → List ℕ = λ (n : ℕ). slot_text (shown_numbers d) (suc n * half) (values_of d before) (values_of d now) in
    ap (λ (t : List ℕ). slot_text (shown_numbers d) (k * half) (values_of d start) (values_of d before) ++ t) (append-nil (s k)) ∙ sym (ap (λ (t : List ℕ). t ++ s (k + 0)) (append-nil _) ∙ ap (λ (n : ℕ). slot_text (shown_numbers d) (k * half) (values_of d start) (values_of d before) ++ s n) e)
later_slots-append d half k start (e ∷ ends) before now =
    let n : suc k + length ends ≡ k + suc (length ends) = omega arith in
    ap (λ (t : List ℕ). slot_text (shown_numbers d) (k * half) (values_of d start) (values_of d e) ++ t)
    (later_slots-append d half (suc k) e ends before now ∙ ap (λ (m : ℕ). later_slots d half (suc k) e (ends ++ before ∷ []) ++ slot_text (shown_numbers d) (suc m * half) (values_of d before) (values_of d now)) n)
    ∙ sym (append_assoc (slot_text (shown_numbers d) (k * half) (values_of d start) (values_of d e)) (later_slots d half (suc k) e (ends ++ before ∷ [])) (slot_text (shown_numbers d) (suc (k + suc (length ends)) * half) (values_of d before) (values_of d now)))

next_slot : (d : Design) (half : ℕ) (ends : List State) (before now : State)
    → slot_texts d half (ends ++ before ∷ now ∷ []) ≡ slot_texts d half (ends ++ before ∷ []) ++ slot_text (shown_numbers d) (suc (length ends) * half) (values_of d before) (values_of d now)
next_slot d half [] before now =
    ap (λ (t : List ℕ). first_text (shown_numbers d) (values_of d before) ++ t) (append-nil (slot_text (shown_numbers d) (1 * half) (values_of d before) (values_of d now)))
    ∙ ap (λ (t : List ℕ). t ++ slot_text (shown_numbers d) (1 * half) (values_of d before) (values_of d now)) (sym (append-nil _))
next_slot d half (e ∷ ends) before now =
    let n : 1 + length ends ≡ suc (length ends) = omega arith in
    ap (λ (t : List ℕ). first_text (shown_numbers d) (values_of d e) ++ t)
    (later_slots-append d half 1 e ends before now ∙ ap (λ (m : ℕ). later_slots d half 1 e (ends ++ before ∷ []) ++ slot_text (shown_numbers d) (suc m * half) (values_of d before) (values_of d now)) n)
    ∙ sym (append_assoc (first_text (shown_numbers d) (values_of d e)) (later_slots d half 1 e (ends ++ before ∷ [])) (slot_text (shown_numbers d) (suc (suc (length ends)) * half) (values_of d before) (values_of d now)))

pub returns-clause-next : goal.returns-clause-next
returns-clause-next c = next_slot

length-count_from : (first count : ℕ) → length (count_from first count) ≡ count
length-count_from first zero = refl
length-count_from first (suc count) = ap suc (length-count_from (suc first) count)

values_fit : (signals : List Signal) (state : State) → map length (map (λ (s : Signal). read state (bits_of_signal s)) signals) ≡ map signal_length signals
values_fit [] state = refl
values_fit (s ∷ signals) state =
    ap (λ (n : ℕ). n ∷ map length (map (λ (t : Signal). read state (bits_of_signal t)) signals)) (length-map (bits_of_signal s) state ∙ length-count_from s.first (signal_length s))
    ∙ ap (λ (ns : List ℕ). signal_length s ∷ ns) (values_fit signals state)

pub returns-clause-lengths : goal.returns-clause-lengths
returns-clause-lengths c = λ d state. values_fit (shown_signals d) state
