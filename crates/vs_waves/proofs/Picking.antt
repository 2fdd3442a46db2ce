-- What stands at the places of a list.
use Rattle.std.proofs.Common.{◌≡◌, ℕ, zero, suc, ◌<◌, List, [], ◌∷◌, length, map, refl, sym, ap, ap₂, ◌∙◌, subst}
use Rattle.std.specs.Prelude.{slice_get, slice_index_or, option_map, Some, All}
use Rattle.std.proofs.lemmas.Option.{slice_get-map, slice_get-get_or}
use Rattle.vs_four.specs.Logic.{BitList}
use Rattle.vs_net.specs.Network.{State}
use Rattle.vs_design.specs.Values.{read}
use Rattle.vs_program.specs.declared.compiled.Span.{Span}
use Rattle.vs_program.specs.Compiled.{span_bits}
use Rattle.vs_vcd.specs.Shared.{at_places}
use Rattle.vs_waves.specs.Rounds.{values_in}

value_or-map : {A B : Type 0} (f : A → B) (none : A) (xs : List A) (k : ℕ) → slice_index_or (map f xs) k (f none) ≡ f (slice_index_or xs k none)
value_or-map f none [] k = refl
value_or-map f none (x ∷ xs) zero = refl
value_or-map f none (x ∷ xs) (suc k) = value_or-map f none xs k

-- of what each has
pub at_map : {A B : Type 0} (f : A → B) (none : A) (places : List ℕ) (xs : List A) → at_places (f none) places (map f xs) ≡ map f (at_places none places xs)
at_map f none [] xs = refl
at_map f none (k ∷ places) xs = ap₂ (λ y ys. y ∷ ys) (value_or-map f none xs k) (at_map f none places xs)

-- the element at the n-th place
pub at_here : {A : Type 0} (none : A) (places : List ℕ) (xs : List A) (n p : ℕ) → slice_get places n ≡ Some p → p < length xs → slice_get (at_places none places xs) n ≡ slice_get xs p
at_here none places xs n p h within =
    slice_get-map (λ k. slice_index_or xs k none) places n
    ∙ ap (option_map (λ k. slice_index_or xs k none)) h
    ∙ sym (slice_get-get_or xs p none within)

-- no bits
pub no_span : Span
no_span = record { first = 0; length = 0 }

-- the spans at these places
pub spans_at : List ℕ → List Span → List Span
spans_at places signals = at_places no_span places signals

-- have the values at these places
pub values_at : (bits : State) (places : List ℕ) (signals : List Span) → at_places [] places (values_in bits signals) ≡ values_in bits (spans_at places signals)
unfolding no_span spans_at
values_at bits places signals = at_map (λ (s : Span). read bits (span_bits s)) no_span places signals

-- and the lengths
pub lengths_at : (places : List ℕ) (signals : List Span) → at_places 0 places (map (λ (s : Span). s.length) signals) ≡ map (λ (s : Span). s.length) (spans_at places signals)
unfolding no_span spans_at
lengths_at places signals = at_map (λ (s : Span). s.length) no_span places signals

pub span_at : (places : List ℕ) (signals : List Span) (n p : ℕ) → slice_get places n ≡ Some p → p < length signals → slice_get (spans_at places signals) n ≡ slice_get signals p
unfolding spans_at
span_at places signals n p h within = at_here no_span places signals n p h within

-- the lengths of values
pub value_lengths : (places : List ℕ) (values : List BitList) → map length (at_places [] places values) ≡ at_places 0 places (map length values)
value_lengths places values = sym (at_map length [] places values)

-- places within one list are within another of the same length
pub within_as : (places : List ℕ) (m n : ℕ) → m ≡ n → All (λ k. k < m) places → All (λ k. k < n) places
within_as places m n e h = subst (λ (j : ℕ). All (λ k. k < j) places) e h
