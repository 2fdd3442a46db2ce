-- The bits of the signals that are written, laid one signal behind the other.
use Rattle.std.proofs.Common.{◌≡◌, ℕ, true, false, ◌+◌, ◌<◌, ◌≤◌, ◌^◌, List, [], ◌∷◌, ◌++◌, length, map, take, slice_get, Some, refl, sym, ap, ◌∙◌, subst, arith, take_all}
use Rattle.std.specs.Prelude.{All}
use Rattle.std.proofs.lemmas.List.{length-append, map-append}
use Rattle.std.proofs.lemmas.List.Elements.{All-append, All-cons}
use Rattle.vs_design.specs.Expressions.{Signal, signal_length}
use Rattle.vs_design.specs.Designs.{Design}
use Rattle.vs_design.specs.Footprints.{is_memory, shown_signals}
use Rattle.vs_vcd.specs.Texts.{shown_numbers}
use Rattle.vs_vcd.specs.Shared.{leads, leading_from, led_by}
use Rattle.vs_program.specs.declared.compiled.Span.{Span}
use Rattle.vs_waves.specs.Last.{AreApart}
use Rattle.vs_waves.proofs.Laying.{apart_more, shown, shown_more, shown_still, written, written_all, written_more, written_still, leading_more, leading_still, more_of}

-- those of the first n of these signals, which are so many, and whose codes are these; so many of them have lines
pub record AreLaidOut (code : ℕ → ℕ) (all : List Signal) (signals n : ℕ) (spans : List Span) (numbers places : List ℕ) (first place : ℕ) : Type 0 where
  pub lengths : map (λ (s : Span). s.length) spans ≡ map signal_length (written code (shown (take n all)))
  pub numbers_are : numbers ≡ map (λ (s : Signal). s.number) (written code (shown (take n all)))
  pub places_are : places ≡ leading_from code 0 (shown (take n all))
  pub place_is : place ≡ length (shown (take n all))
  pub few : place ≤ n
  pub long : length numbers ≡ length spans
  pub placed : length places ≡ length spans
  pub count : length spans ≤ n
  pub below : All (λ m. m < signals) numbers
  pub apart : AreApart spans first

no_spans : AreApart [] 0
no_spans = record { within = λ n s e. cc; apart = λ m n s t h e d. cc; few = omega arith }

pub laid_none : (code : ℕ → ℕ) (all : List Signal) (signals : ℕ) → AreLaidOut code all signals 0 [] [] [] 0 0
laid_none code all signals = record { lengths = refl; numbers_are = refl; places_are = refl; place_is = refl; few = omega arith; long = refl; placed = refl; count = omega arith; below = λ i d inside. absurd (omega arith); apart = no_spans }

one_below : (n m : ℕ) → n < m → All (λ k. k < m) (n ∷ [])
one_below n m h = All-cons (λ k. k < m) n [] h (λ k d inside. absurd (omega arith))

-- one signal more, whose values are written
pub laid_written : (code : ℕ → ℕ) (all : List Signal) (signals n m : ℕ) (spans more : List Span) (numbers more_numbers places more_places : List ℕ) (first place next_first next_place size : ℕ) (s : Signal)
    → AreLaidOut code all signals n spans numbers places first place → m ≡ n + 1 → slice_get all n ≡ Some s → s.number ≡ n → is_memory s ≡ false → leads code s ≡ true → size ≡ signal_length s → n < signals → signals < 2 ^ 32
    → more ≡ spans ++ record { first = first; length = size } ∷ [] → more_numbers ≡ numbers ++ n ∷ [] → more_places ≡ places ++ place ∷ [] → next_first ≡ first + size → next_place ≡ place + 1
    → AreLaidOut code all signals m more more_numbers more_places next_first next_place
laid_written code all signals n m spans more numbers more_numbers places more_places first place next_first next_place size s h next here number plain leading long inside few is numbers_is places_is first_is place_next =
    let last : Span = record { first = first; length = size } in
    let shown_is : shown (take m all) ≡ shown (take n all) ++ s ∷ [] = ap (λ (k : ℕ). shown (take k all)) next ∙ shown_more all n s here plain in
    let written_is : written code (shown (take m all)) ≡ written code (shown (take n all)) ++ s ∷ [] = written_more code (shown (take n all)) (shown (take m all)) s shown_is leading in
    let spans_long = ap length is ∙ length-append spans (last ∷ []) in
    let numbers_long = ap length numbers_is ∙ length-append numbers (n ∷ []) in
    let places_long = ap length places_is ∙ length-append places (place ∷ []) in
    let shown_long = ap length shown_is ∙ length-append (shown (take n all)) (s ∷ []) in
    record {
      lengths = more_of signal_length (map (λ (t : Span). t.length) spans) (map (λ (t : Span). t.length) more) _ _ s size
          (ap (map (λ (t : Span). t.length)) is ∙ map-append (λ (t : Span). t.length) spans (last ∷ [])) long written_is h.lengths;
      numbers_are = more_of (λ (t : Signal). t.number) numbers more_numbers _ _ s n numbers_is (sym number) written_is h.numbers_are;
      places_are = places_is ∙ ap (λ (xs : List ℕ). xs ++ place ∷ []) h.places_are ∙ sym (leading_more code (shown (take n all)) (shown (take m all)) s place shown_is leading h.place_is);
      place_is = omega (arith, shown_long, h.place_is, place_next);
      few = omega (arith, h.few, place_next, next);
      long = omega (arith, spans_long, numbers_long, h.long);
      placed = omega (arith, spans_long, places_long, h.placed);
      count = omega (arith, spans_long, h.count, next);
      below = subst (All (λ k. k < signals)) (sym numbers_is) (All-append (λ k. k < signals) numbers (n ∷ []) h.below (one_below n signals inside));
      apart = subst (λ (ss : List Span). AreApart ss next_first) (sym is) (subst (AreApart (spans ++ last ∷ [])) (sym first_is) (apart_more spans first size h.apart (omega (arith, h.count))));
    }

-- one that has a line, and whose values aren't written
pub laid_shown : (code : ℕ → ℕ) (all : List Signal) (signals n m : ℕ) (spans : List Span) (numbers places : List ℕ) (first place next_place : ℕ) (s : Signal)
    → AreLaidOut code all signals n spans numbers places first place → m ≡ n + 1 → slice_get all n ≡ Some s → is_memory s ≡ false → leads code s ≡ false → next_place ≡ place + 1
    → AreLaidOut code all signals m spans numbers places first next_place
laid_shown code all signals n m spans numbers places first place next_place s h next here plain leading place_next =
    let shown_is : shown (take m all) ≡ shown (take n all) ++ s ∷ [] = ap (λ (k : ℕ). shown (take k all)) next ∙ shown_more all n s here plain in
    let written_is : written code (shown (take m all)) ≡ written code (shown (take n all)) = written_still code (shown (take n all)) (shown (take m all)) s shown_is leading in
    let shown_long = ap length shown_is ∙ length-append (shown (take n all)) (s ∷ []) in
    record {
      lengths = h.lengths ∙ sym (ap (map signal_length) written_is);
      numbers_are = h.numbers_are ∙ sym (ap (map (λ (t : Signal). t.number)) written_is);
      places_are = h.places_are ∙ sym (leading_still code (shown (take n all)) (shown (take m all)) s shown_is leading);
      place_is = omega (arith, shown_long, h.place_is, place_next);
      few = omega (arith, h.few, place_next, next);
      long = h.long;
      placed = h.placed;
      count = omega (arith, h.count, next);
      below = h.below;
      apart = h.apart;
    }

-- a memory
pub laid_memory : (code : ℕ → ℕ) (all : List Signal) (signals n m : ℕ) (spans : List Span) (numbers places : List ℕ) (first place : ℕ) (s : Signal)
    → AreLaidOut code all signals n spans numbers places first place → m ≡ n + 1 → slice_get all n ≡ Some s → is_memory s ≡ true → AreLaidOut code all signals m spans numbers places first place
laid_memory code all signals n m spans numbers places first place s h next here memory =
    let shown_is : shown (take m all) ≡ shown (take n all) = ap (λ (k : ℕ). shown (take k all)) next ∙ shown_still all n s here memory in
    record {
      lengths = h.lengths ∙ sym (ap (λ (ss : List Signal). map signal_length (written code ss)) shown_is);
      numbers_are = h.numbers_are ∙ sym (ap (λ (ss : List Signal). map (λ (t : Signal). t.number) (written code ss)) shown_is);
      places_are = h.places_are ∙ sym (ap (leading_from code 0) shown_is);
      place_is = h.place_is ∙ sym (ap length shown_is);
      few = omega (arith, h.few, next);
      long = h.long;
      placed = h.placed;
      count = omega (arith, h.count, next);
      below = h.below;
      apart = h.apart;
    }

-- the same lists
pub laid_as : (code : ℕ → ℕ) (all : List Signal) (signals n : ℕ) (spans more : List Span) (numbers more_numbers places more_places : List ℕ) (first next_first place : ℕ)
    → more ≡ spans → more_numbers ≡ numbers → more_places ≡ places → next_first ≡ first → AreLaidOut code all signals n spans numbers places first place → AreLaidOut code all signals n more more_numbers more_places next_first place
laid_as code all signals n spans more numbers more_numbers places more_places first next_first place is numbers_is places_is first_is h =
    subst (λ (ss : List Span). AreLaidOut code all signals n ss more_numbers more_places next_first place) (sym is)
    (subst (λ (ns : List ℕ). AreLaidOut code all signals n spans ns more_places next_first place) (sym numbers_is)
    (subst (λ (ps : List ℕ). AreLaidOut code all signals n spans numbers ps next_first place) (sym places_is)
    (subst (λ (k : ℕ). AreLaidOut code all signals n spans numbers places k place) (sym first_is) h)))

-- all of a design
pub all_lengths : (code : ℕ → ℕ) (d : Design) (signals n : ℕ) (spans : List Span) (numbers places : List ℕ) (first place : ℕ) → AreLaidOut code d.signals signals n spans numbers places first place → length d.signals ≤ n
    → map (λ (s : Span). s.length) spans ≡ map signal_length (shown_signals (led_by code d))
all_lengths code d signals n spans numbers places first place h end =
    h.lengths ∙ ap (λ (ss : List Signal). map signal_length (written code (shown ss))) (take_all n d.signals end) ∙ ap (map signal_length) (written_all code d)

pub all_numbers : (code : ℕ → ℕ) (d : Design) (signals n : ℕ) (spans : List Span) (numbers places : List ℕ) (first place : ℕ) → AreLaidOut code d.signals signals n spans numbers places first place → length d.signals ≤ n
    → numbers ≡ shown_numbers (led_by code d)
all_numbers code d signals n spans numbers places first place h end =
    h.numbers_are ∙ ap (λ (ss : List Signal). map (λ (s : Signal). s.number) (written code (shown ss))) (take_all n d.signals end) ∙ ap (map (λ (s : Signal). s.number)) (written_all code d)

pub all_places : (code : ℕ → ℕ) (d : Design) (signals n : ℕ) (spans : List Span) (numbers places : List ℕ) (first place : ℕ) → AreLaidOut code d.signals signals n spans numbers places first place → length d.signals ≤ n
    → places ≡ leading_from code 0 (shown_signals d)
all_places code d signals n spans numbers places first place h end = h.places_are ∙ ap (λ (ss : List Signal). leading_from code 0 (shown ss)) (take_all n d.signals end)
