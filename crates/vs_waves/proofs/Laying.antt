-- Signals' bits laid one signal behind the other.
use Rattle.std.proofs.Common.{◌≡◌, Bool, true, false, ℕ, suc, ◌+◌, ◌<◌, ◌≤◌, ◌^◌, List, [], ◌∷◌, ◌++◌, length, map, take, slice_get, Some, refl, sym, ap, ap₂, ◌∙◌, subst, arith, inl, inr, append-nil, length-append}
use Rattle.std.proofs.lemmas.Bool.{cases_lt}
use Rattle.std.proofs.lemmas.Option.{slice_get_within, get_or_from_slice_get}
use Rattle.std.proofs.lemmas.List.{map-append, take_more}
use Rattle.std.proofs.lemmas.List.Elements.{filter-append}
use Rattle.std.specs.Prelude.{not, cond, filter, Option, None, is_some, if◌then◌else◌}
use Rattle.vs_four.specs.declared.Range.{Range}
use Rattle.vs_design.specs.Expressions.{Signal, range_or_one, words_length, signal_length}
use Rattle.vs_design.specs.Designs.{Design}
use Rattle.vs_design.specs.Footprints.{is_memory, shown_signals}
use Rattle.vs_vcd.specs.Shared.{leads, leading_from, led_by}
use Rattle.vs_vcd.proofs.Leading.{filters_swap}
use Rattle.vs_program.specs.declared.compiled.Span.{Span}
use Rattle.vs_waves.specs.Last.{AreApart}
use Rattle.vs_waves.proofs.Listing.{slice_get-before, slice_get-last}

-- a signal of so many bits behind the others
pub apart_more : (spans : List Span) (bits size : ℕ) → AreApart spans bits → length spans + 1 < 2 ^ 32 → AreApart (spans ++ record { first = bits; length = size } ∷ []) (bits + size)
apart_more spans bits size so_far few =
    let last : Span = record { first = bits; length = size } in
    let long : length (spans ++ last ∷ []) ≡ length spans + 1 = length-append spans (last ∷ []) in
    record {
      within = λ n s e. elim (cases_lt n (length spans)) [
        | inl h ↦ let w = so_far.within n s (sym (slice_get-before spans (last ∷ []) n h) ∙ e) in omega arith
        | inr h ↦ let same = is_last spans last n s h e in ends last s size refl same
      ];
      apart = λ m n s t h e d. elim (cases_lt n (length spans)) [
        | inl l ↦ so_far.apart m n s t h (sym (slice_get-before spans (last ∷ []) m (omega arith)) ∙ e) (sym (slice_get-before spans (last ∷ []) n l) ∙ d)
        | inr l ↦
            let here : m < length spans = omega (arith, h, slice_get_within (spans ++ last ∷ []) n t d, long) in
            let w = so_far.within m s (sym (slice_get-before spans (last ∷ []) m here) ∙ e) in
            let same : last.first ≡ t.first = ap (λ (u : Span). u.first) (is_last spans last n t l d) in
            omega (arith, w, same)
      ];
      few = omega (arith, long, few);
    }
  where
    is_last : (spans : List Span) (last : Span) (n : ℕ) (s : Span) → length spans ≤ n → slice_get (spans ++ last ∷ []) n ≡ Some s → last ≡ s
    is_last spans last n s h e =
        let within : n < length (spans ++ last ∷ []) = slice_get_within (spans ++ last ∷ []) n s e in
        let here : length spans ≡ n = omega (arith, within, h, length-append spans (last ∷ [])) in
        let both : Some last ≡ Some s = sym (slice_get-last spans last) ∙ ap (slice_get (spans ++ last ∷ [])) here ∙ e in
        cc

    ends : (last s : Span) (size : ℕ) → last.length ≡ size → last ≡ s → s.first + s.length ≤ last.first + size
    ends last s size long same = subst (λ (u : Span). u.first + u.length ≤ last.first + size) same (omega arith)

-- those of these signals that have lines
abbrev pub shown : List Signal → List Signal
shown signals = filter (λ s. not (is_memory s)) signals

-- what is no memory has the length of its range
pub plain_length : (s : Signal) → is_memory s ≡ false → signal_length s ≡ range_or_one s.range
plain_length s plain = of s.words plain
  where
    of : (words : Option Range) → is_some words ≡ false → words_length words (range_or_one s.range) ≡ range_or_one s.range
    of None e = refl
    of (Some r) e = cc

shown_append : (signals : List Signal) (n : ℕ) (s : Signal) → slice_get signals n ≡ Some s → shown (take (n + 1) signals) ≡ shown (take n signals) ++ shown (s ∷ [])
shown_append signals n s e =
    ap shown (take_more signals n s (slice_get_within signals n s e) ∙ ap (λ (x : Signal). take n signals ++ x ∷ []) (get_or_from_slice_get signals n s s e))
    ∙ filter-append (λ (x : Signal). not (is_memory x)) (take n signals) (s ∷ [])

-- one signal more, which has a line or is a memory
pub shown_more : (signals : List Signal) (n : ℕ) (s : Signal) → slice_get signals n ≡ Some s → is_memory s ≡ false → shown (take (n + 1) signals) ≡ shown (take n signals) ++ s ∷ []
shown_more signals n s e plain =
    let one : shown (s ∷ []) ≡ s ∷ [] = ap (λ (b : Bool). cond (not b) (s ∷ []) []) plain in
    shown_append signals n s e ∙ ap (λ (xs : List Signal). shown (take n signals) ++ xs) one

pub shown_still : (signals : List Signal) (n : ℕ) (s : Signal) → slice_get signals n ≡ Some s → is_memory s ≡ true → shown (take (n + 1) signals) ≡ shown (take n signals)
shown_still signals n s e memory =
    let none : shown (s ∷ []) ≡ [] = ap (λ (b : Bool). cond (not b) (s ∷ []) []) memory in
    shown_append signals n s e ∙ ap (λ (xs : List Signal). shown (take n signals) ++ xs) none ∙ append-nil (shown (take n signals))

-- with one more
pub more_of : {A : Type 0} (f : Signal → A) (xs more : List A) (old new : List Signal) (s : Signal) (y : A) → more ≡ xs ++ y ∷ [] → y ≡ f s → new ≡ old ++ s ∷ [] → xs ≡ map f old → more ≡ map f new
more_of f xs more old new s y m is n so_far =
    m ∙ ap₂ (λ ys z. ys ++ z ∷ []) so_far is ∙ sym (map-append f old (s ∷ [])) ∙ ap (map f) (sym n)

-- ---- signals that are written

-- those of these signals that lead
abbrev pub written : (ℕ → ℕ) → List Signal → List Signal
written code signals = filter (leads code) signals

-- those of a design that are written
pub written_all : (code : ℕ → ℕ) (d : Design) → written code (shown d.signals) ≡ shown_signals (led_by code d)
written_all code d = filters_swap (leads code) (λ (s : Signal). not (is_memory s)) d.signals

written_append : (code : ℕ → ℕ) (signals more : List Signal) (s : Signal) → more ≡ signals ++ s ∷ [] → written code more ≡ written code signals ++ written code (s ∷ [])
written_append code signals more s e = ap (written code) e ∙ filter-append (leads code) signals (s ∷ [])

-- one signal more, which leads or doesn't
pub written_more : (code : ℕ → ℕ) (signals more : List Signal) (s : Signal) → more ≡ signals ++ s ∷ [] → leads code s ≡ true → written code more ≡ written code signals ++ s ∷ []
written_more code signals more s e leading =
    let one : written code (s ∷ []) ≡ s ∷ [] = ap (λ (b : Bool). cond b (s ∷ []) []) leading in
    written_append code signals more s e ∙ ap (λ (xs : List Signal). written code signals ++ xs) one

pub written_still : (code : ℕ → ℕ) (signals more : List Signal) (s : Signal) → more ≡ signals ++ s ∷ [] → leads code s ≡ false → written code more ≡ written code signals
written_still code signals more s e leading =
    let none : written code (s ∷ []) ≡ [] = ap (λ (b : Bool). cond b (s ∷ []) []) leading in
    written_append code signals more s e ∙ ap (λ (xs : List Signal). written code signals ++ xs) none ∙ append-nil (written code signals)

leading_append : (code : ℕ → ℕ) (k : ℕ) (signals : List Signal) (s : Signal) → leading_from code k (signals ++ s ∷ []) ≡ leading_from code k signals ++ (if leads code s then (k + length signals) ∷ [] else [])
leading_append code k [] s = ap (λ (n : ℕ). if leads code s then n ∷ [] else []) (let e : k ≡ k + 0 = omega arith in e)
leading_append code k (x ∷ signals) s =
    let last : ℕ → List ℕ = λ n. if leads code s then n ∷ [] else [] in
    let next : leading_from code (suc k) (signals ++ s ∷ []) ≡ leading_from code (suc k) signals ++ last (k + suc (length signals)) =
    leading_append code (suc k) signals s ∙ ap (λ (n : ℕ). leading_from code (suc k) signals ++ last n) (let e : suc k + length signals ≡ k + suc (length signals) = omega arith in e) in
    of (leads code x) (last (k + suc (length signals))) (leading_from code (suc k) (signals ++ s ∷ [])) (leading_from code (suc k) signals) next
  where
    of : (b : Bool) (end new old : List ℕ) → new ≡ old ++ end → (if b then (k ∷ new) else new) ≡ (if b then (k ∷ old) else old) ++ end
    of true end new old e = ap (λ (ns : List ℕ). k ∷ ns) e
    of false end new old e = e

-- the place of one signal more
pub leading_more : (code : ℕ → ℕ) (signals more : List Signal) (s : Signal) (place : ℕ) → more ≡ signals ++ s ∷ [] → leads code s ≡ true → place ≡ length signals → leading_from code 0 more ≡ leading_from code 0 signals ++ place ∷ []
leading_more code signals more s place e leading is =
    ap (leading_from code 0) e ∙ leading_append code 0 signals s
    ∙ ap (λ (b : Bool). leading_from code 0 signals ++ (if b then (0 + length signals) ∷ [] else [])) leading
    ∙ ap (λ (n : ℕ). leading_from code 0 signals ++ n ∷ []) (let q : 0 + length signals ≡ place = omega arith in q)

pub leading_still : (code : ℕ → ℕ) (signals more : List Signal) (s : Signal) → more ≡ signals ++ s ∷ [] → leads code s ≡ false → leading_from code 0 more ≡ leading_from code 0 signals
leading_still code signals more s e leading =
    ap (leading_from code 0) e ∙ leading_append code 0 signals s
    ∙ ap (λ (b : Bool). leading_from code 0 signals ++ (if b then (0 + length signals) ∷ [] else [])) leading
    ∙ append-nil (leading_from code 0 signals)
