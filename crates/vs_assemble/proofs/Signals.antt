-- What is made of a design's signals, one by one.
use Rattle.std.proofs.Common.{◌≡◌, ℕ, zero, suc, ◌+◌, ◌<◌, ◌≤◌, Bool, true, false, not, List, [], ◌∷◌, ◌++◌, ◌&&◌, ◌||◌, ◌==◌, if◌then◌else◌, length, map, get_or, drop, Some, slice_get, sym, ap, ◌∙◌, refl, arith, append_assoc, append-nil, drop_of_length-le, eqb-true, eq-eqb, ne_eqb}
use Rattle.std.specs.Prelude.{sum_by}
use Rattle.std.specs.List.{filter}
use Rattle.std.proofs.lemmas.Bool.{and_parts}
use Rattle.std.proofs.lemmas.List.{length-map}
use Rattle.std.proofs.lemmas.List.Elements.{filter-append}
use Rattle.std.proofs.lemmas.List.Sums.{sum_by-cons}
use Rattle.vs_design.specs.Expressions.{Signal, signal_length}
use Rattle.vs_design.specs.Values.{count_from, bits_of_signal}
use Rattle.vs_design.specs.Elaborated.{have_bits_from}
use Rattle.vs_design.specs.Footprints.{contains, without, signals_bits, is_input, is_memory}
use Rattle.vs_flat.specs.declared.processes.Signal as F
use Rattle.vs_flat.specs.Arena.{Arena, bit_count, signal_length as bits_in}
use Rattle.vs_flat.specs.Trees.{signal_of, signals_from}
use Rattle.vs_flat.specs.DesignOf.{arena_signals}
use Rattle.vs_program.specs.declared.compiled.Span.{Span}
use Rattle.vs_program.specs.Compiled.{span_of}
use Rattle.vs_assemble.proofs.Lists.{by_test}
use Rattle.vs_assemble.proofs.Planned.{count_next}

some_is : {A : Type 0} (x y : A) → Some x ≡ Some y → x ≡ y
some_is x y e = cc

-- ---- lists that are made element by element

drop_some : {A : Type 0} (xs : List A) (n : ℕ) (x : A) → slice_get xs n ≡ Some x → drop n xs ≡ x ∷ drop (n + 1) xs
drop_some [] n x e = cc
drop_some (y ∷ ys) zero x e = ap (λ z. z ∷ ys) (some_is y x e)
drop_some (y ∷ ys) (suc n) x e =
    let next : suc (n + 1) ≡ suc n + 1 = omega arith in
    drop_some ys n x e ∙ ap (λ m. x ∷ drop m (y ∷ ys)) next

made_more : {A B : Type 0} (f : List A → List B) (xs : List A) (n : ℕ) (x : A) (here so_far all : List B) → slice_get xs n ≡ Some x → ((ys : List A) → f (x ∷ ys) ≡ here ++ f ys) → so_far ++ f (drop n xs) ≡ all → (so_far ++ here) ++ f (drop (n + 1) xs) ≡ all
made_more f xs n x here so_far all at each is =
    append_assoc so_far here (f (drop (n + 1) xs)) ∙ ap (λ r. so_far ++ r) (sym (each (drop (n + 1) xs)) ∙ ap f (sym (drop_some xs n x at))) ∙ is

made_all : {A B : Type 0} (f : List A → List B) → f [] ≡ [] → (xs : List A) (n : ℕ) (so_far all : List B) → length xs ≤ n → so_far ++ f (drop n xs) ≡ all → so_far ≡ all
made_all f none xs n so_far all past is = sym (append-nil so_far) ∙ ap (λ r. so_far ++ r) (sym (ap f (drop_of_length-le xs past) ∙ none)) ∙ is

-- ---- the signals of a flat design

signal_number : (k : ℕ) (ss : List F.Signal) (n : ℕ) (s : F.Signal) → slice_get ss n ≡ Some s → slice_get (signals_from k ss) n ≡ Some (signal_of (k + n) s)
signal_number k [] n s e = cc
signal_number k (t ∷ ss) zero s e =
    let at : k ≡ k + 0 = omega arith in
    ap (λ (x : F.Signal). Some (signal_of k x)) (some_is t s e) ∙ ap (λ m. Some (signal_of m s)) at
signal_number k (t ∷ ss) (suc n) s e =
    let at : suc k + n ≡ k + suc n = omega arith in
    signal_number (suc k) ss n s e ∙ ap (λ m. Some (signal_of m s)) at

signal_there : (a : Arena) (n : ℕ) (s : F.Signal) → slice_get a.signals n ≡ Some s → slice_get (arena_signals a) n ≡ Some (signal_of n s)
signal_there a n s e =
    let at : 0 + n ≡ n = omega arith in
    signal_number 0 a.signals n s e ∙ ap (λ m. Some (signal_of m s)) at

length-signals_from : (k : ℕ) (ss : List F.Signal) → length (signals_from k ss) ≡ length ss
length-signals_from k [] = refl
length-signals_from k (s ∷ ss) = ap suc (length-signals_from (suc k) ss)

past_all : (a : Arena) (n count : ℕ) → count ≡ length a.signals → count ≤ n → length (arena_signals a) ≤ n
past_all a n count is past = omega (arith, is, past, length-signals_from 0 a.signals)

-- a signal has no more bits than all
pub few_bits : (ss : List F.Signal) (n : ℕ) (s : F.Signal) → slice_get ss n ≡ Some s → bits_in s ≤ bit_count ss
few_bits [] n s e = cc
few_bits (t ∷ ss) zero s e =
    let same : bits_in t ≡ bits_in s = ap bits_in (some_is t s e) in
    omega (arith, same, sum_by-cons bits_in t ss)
few_bits (t ∷ ss) (suc n) s e = omega (arith, few_bits ss n s e, sum_by-cons bits_in t ss)

-- its bits lie among all
low_bits : (k : ℕ) (ss : List Signal) (n : ℕ) (s : Signal) → have_bits_from k ss ≡ true → slice_get ss n ≡ Some s → s.first + signal_length s ≤ k + sum_by signal_length ss
low_bits k [] n s h e = cc
low_bits k (t ∷ ss) zero s h e =
    let parts = and_parts (t.first == k) (have_bits_from (k + signal_length t) ss) h in
    let first : t.first ≡ k = eqb-true t.first k parts.0 in
    let same : t.first + signal_length t ≡ s.first + signal_length s = ap (λ (x : Signal). x.first + signal_length x) (some_is t s e) in
    omega (arith, first, same, sum_by-cons signal_length t ss)
low_bits k (t ∷ ss) (suc n) s h e =
    let parts = and_parts (t.first == k) (have_bits_from (k + signal_length t) ss) h in
    omega (arith, low_bits (k + signal_length t) ss n s parts.1 e, sum_by-cons signal_length t ss)

-- the span of a signal
pub span_at : (a : Arena) (spans : List Span) (n : ℕ) (s : F.Signal) (d : Span) → spans ≡ map span_of (arena_signals a) → slice_get a.signals n ≡ Some s → get_or spans n d ≡ span_of (signal_of n s)
span_at a spans n s d is e = ap (λ (xs : List Span). get_or xs n d) is ∙ at_map (arena_signals a) n (signal_of n s) (signal_there a n s e)
  where
    at_map : (ss : List Signal) (n : ℕ) (t : Signal) → slice_get ss n ≡ Some t → get_or (map span_of ss) n d ≡ span_of t
    at_map [] n t e = cc
    at_map (x ∷ ss) zero t e = ap span_of (some_is x t e)
    at_map (x ∷ ss) (suc n) t e = at_map ss n t e

pub span_low : (a : Arena) (n : ℕ) (s : F.Signal) (span : Span) → have_bits_from 0 (arena_signals a) ≡ true → sum_by signal_length (arena_signals a) ≤ 1048576 → slice_get a.signals n ≡ Some s → span ≡ span_of (signal_of n s) → span.first + span.length < 4294967296
span_low a n s span numbered few e is =
    let low = low_bits 0 (arena_signals a) n (signal_of n s) numbered (signal_there a n s e) in
    let same : span.first + span.length ≡ s.first_bit + bits_in s = ap (λ (x : Span). x.first + x.length) is in
    omega (arith, low, same, few)

-- one more span
pub spans_more : (a : Arena) (n : ℕ) (s : F.Signal) (so_far : List Span) (span : Span) → slice_get a.signals n ≡ Some s → span ≡ span_of (signal_of n s)
    → so_far ++ map span_of (drop n (arena_signals a)) ≡ map span_of (arena_signals a) → (so_far ++ span ∷ []) ++ map span_of (drop (n + 1) (arena_signals a)) ≡ map span_of (arena_signals a)
spans_more a n s so_far span at is h =
    ap (λ (x : Span). (so_far ++ x ∷ []) ++ map span_of (drop (n + 1) (arena_signals a))) is
    ∙ made_more (map span_of) (arena_signals a) n (signal_of n s) (span_of (signal_of n s) ∷ []) so_far (map span_of (arena_signals a)) (signal_there a n s at) (λ ys. refl) h

pub spans_all : (a : Arena) (n count : ℕ) (so_far : List Span) → count ≡ length a.signals → count ≤ n → so_far ++ map span_of (drop n (arena_signals a)) ≡ map span_of (arena_signals a) → so_far ≡ map span_of (arena_signals a)
spans_all a n count so_far is past h = made_all (map span_of) refl (arena_signals a) n so_far (map span_of (arena_signals a)) (past_all a n count is past) h

-- ---- the spans of those that have lines

abbrev pub shown_spans : List Signal → List Span
shown_spans ss = map span_of (filter (λ s. not (is_memory s)) ss)

-- what a signal adds
abbrev pub added_span : Signal → List Span
added_span s = if not (is_memory s) then (span_of s ∷ []) else []

pub shown_more : (a : Arena) (n : ℕ) (s : F.Signal) (so_far new : List Span) → slice_get a.signals n ≡ Some s → new ≡ so_far ++ added_span (signal_of n s)
    → so_far ++ shown_spans (drop n (arena_signals a)) ≡ shown_spans (arena_signals a) → new ++ shown_spans (drop (n + 1) (arena_signals a)) ≡ shown_spans (arena_signals a)
shown_more a n s so_far new at is h =
    ap (λ (xs : List Span). xs ++ shown_spans (drop (n + 1) (arena_signals a))) is
    ∙ made_more shown_spans (arena_signals a) n (signal_of n s) (added_span (signal_of n s)) so_far (shown_spans (arena_signals a)) (signal_there a n s at) (one (signal_of n s)) h
  where
    one : (t : Signal) (ys : List Signal) → shown_spans (t ∷ ys) ≡ added_span t ++ shown_spans ys
    one t ys = by_test (is_memory t)
        (λ e. ap (λ (c : Bool). map span_of (if not c then (t ∷ filter (λ s. not (is_memory s)) ys) else filter (λ s. not (is_memory s)) ys)) e ∙ sym (ap (λ (c : Bool). (if not c then (span_of t ∷ []) else []) ++ shown_spans ys) e))
        (λ e. ap (λ (c : Bool). map span_of (if not c then (t ∷ filter (λ s. not (is_memory s)) ys) else filter (λ s. not (is_memory s)) ys)) e ∙ sym (ap (λ (c : Bool). (if not c then (span_of t ∷ []) else []) ++ shown_spans ys) e))

pub shown_all : (a : Arena) (n count : ℕ) (so_far : List Span) → count ≡ length a.signals → count ≤ n → so_far ++ shown_spans (drop n (arena_signals a)) ≡ shown_spans (arena_signals a) → so_far ≡ shown_spans (arena_signals a)
shown_all a n count so_far is past h = made_all shown_spans refl (arena_signals a) n so_far (shown_spans (arena_signals a)) (past_all a n count is past) h

pub span_shown : (n : ℕ) (s : F.Signal) (so_far new : List Span) (span : Span) → is_memory (signal_of n s) ≡ false → span ≡ span_of (signal_of n s) → new ≡ so_far ++ span ∷ [] → new ≡ so_far ++ added_span (signal_of n s)
span_shown n s so_far new span e is h =
    h ∙ ap (λ (x : Span). so_far ++ x ∷ []) is ∙ sym (ap (λ (c : Bool). so_far ++ (if not c then (span_of (signal_of n s) ∷ []) else [])) e)

pub span_left : (n : ℕ) (s : F.Signal) (so_far : List Span) → is_memory (signal_of n s) ≡ true → so_far ≡ so_far ++ added_span (signal_of n s)
span_left n s so_far e = sym (append-nil so_far) ∙ sym (ap (λ (c : Bool). so_far ++ (if not c then (span_of (signal_of n s) ∷ []) else [])) e)

-- ---- the data inputs

abbrev pub data_of : List ℕ → List Signal → List ℕ
data_of clocks ss = without (signals_bits (filter is_input ss)) clocks

-- what a signal adds
abbrev pub added : List ℕ → Signal → List ℕ
added clocks s = if s.input then without (bits_of_signal s) clocks else []

one_more : (clocks : List ℕ) (s : Signal) (ss : List Signal) → data_of clocks (s ∷ ss) ≡ added clocks s ++ data_of clocks ss
one_more clocks s ss = by_test s.input
    (λ e.
    ap (λ (c : Bool). without (signals_bits (if c then (s ∷ filter is_input ss) else filter is_input ss)) clocks) e
    ∙ filter-append (λ b. not (contains clocks b)) (bits_of_signal s) (signals_bits (filter is_input ss))
    ∙ sym (ap (λ (c : Bool). (if c then without (bits_of_signal s) clocks else []) ++ data_of clocks ss) e))
    (λ e.
    ap (λ (c : Bool). without (signals_bits (if c then (s ∷ filter is_input ss) else filter is_input ss)) clocks) e
    ∙ sym (ap (λ (c : Bool). (if c then without (bits_of_signal s) clocks else []) ++ data_of clocks ss) e))

pub data_more : (clocks : List ℕ) (a : Arena) (n : ℕ) (s : F.Signal) (so_far new : List ℕ) → slice_get a.signals n ≡ Some s → new ≡ so_far ++ added clocks (signal_of n s)
    → so_far ++ data_of clocks (drop n (arena_signals a)) ≡ data_of clocks (arena_signals a) → new ++ data_of clocks (drop (n + 1) (arena_signals a)) ≡ data_of clocks (arena_signals a)
data_more clocks a n s so_far new at is h =
    ap (λ (bs : List ℕ). bs ++ data_of clocks (drop (n + 1) (arena_signals a))) is
    ∙ made_more (data_of clocks) (arena_signals a) n (signal_of n s) (added clocks (signal_of n s)) so_far (data_of clocks (arena_signals a)) (signal_there a n s at) (λ ys. one_more clocks (signal_of n s) ys) h

pub data_all : (clocks : List ℕ) (a : Arena) (n count : ℕ) (so_far : List ℕ) → count ≡ length a.signals → count ≤ n → so_far ++ data_of clocks (drop n (arena_signals a)) ≡ data_of clocks (arena_signals a) → so_far ≡ data_of clocks (arena_signals a)
data_all clocks a n count so_far is past h = made_all (data_of clocks) refl (arena_signals a) n so_far (data_of clocks (arena_signals a)) (past_all a n count is past) h

pub added_input : (clocks : List ℕ) (n : ℕ) (s : F.Signal) (so_far new : List ℕ) (span : Span) → s.input ≡ true → span ≡ span_of (signal_of n s) → new ≡ so_far ++ without (count_from span.first span.length) clocks → new ≡ so_far ++ added clocks (signal_of n s)
added_input clocks n s so_far new span e is h =
    h ∙ ap (λ (x : Span). so_far ++ without (count_from x.first x.length) clocks) is
    ∙ sym (ap (λ (c : Bool). so_far ++ (if c then without (bits_of_signal (signal_of n s)) clocks else [])) e)

pub added_none : (clocks : List ℕ) (n : ℕ) (s : F.Signal) (so_far : List ℕ) → s.input ≡ false → so_far ≡ so_far ++ added clocks (signal_of n s)
added_none clocks n s so_far e =
    sym (append-nil so_far) ∙ sym (ap (λ (c : Bool). so_far ++ (if c then without (bits_of_signal (signal_of n s)) clocks else [])) e)

-- as many spans as signals
pub spans_long : (a : Arena) (spans : List Span) → spans ≡ map span_of (arena_signals a) → length spans ≡ length a.signals
spans_long a spans is = ap length is ∙ length-map (arena_signals a) span_of ∙ length-signals_from 0 a.signals

-- ---- the bits of a span but the clocks'

next_bit : (first k : ℕ) (clocks : List ℕ) → without (count_from first (k + 1)) clocks ≡ without (count_from first k) clocks ++ (if not (contains clocks (first + k)) then ((first + k) ∷ []) else [])
next_bit first k clocks =
    let at : k + 1 ≡ suc k = omega arith in
    ap (λ n. without (count_from first n) clocks) at
    ∙ ap (λ (bs : List ℕ). without bs clocks) (count_next first k)
    ∙ filter-append (λ b. not (contains clocks b)) (count_from first k) ((first + k) ∷ [])

pub bit_kept : (first k : ℕ) (clocks : List ℕ) (start so_far new : List ℕ) → contains clocks (first + k) ≡ false → new ≡ so_far ++ (first + k) ∷ [] → so_far ≡ start ++ without (count_from first k) clocks
    → new ≡ start ++ without (count_from first (k + 1)) clocks
bit_kept first k clocks start so_far new other is h =
    is ∙ ap (λ (bs : List ℕ). bs ++ (first + k) ∷ []) h ∙ append_assoc start (without (count_from first k) clocks) ((first + k) ∷ [])
    ∙ sym (ap (λ (bs : List ℕ). start ++ bs) (next_bit first k clocks ∙ ap (λ (c : Bool). without (count_from first k) clocks ++ (if not c then ((first + k) ∷ []) else [])) other))

pub bit_left : (first k : ℕ) (clocks : List ℕ) (start so_far new : List ℕ) → contains clocks (first + k) ≡ true → new ≡ so_far → so_far ≡ start ++ without (count_from first k) clocks
    → new ≡ start ++ without (count_from first (k + 1)) clocks
bit_left first k clocks start so_far new same is h =
    is ∙ h ∙ sym (ap (λ (bs : List ℕ). start ++ bs) (next_bit first k clocks ∙ ap (λ (c : Bool). without (count_from first k) clocks ++ (if not c then ((first + k) ∷ []) else [])) same ∙ append-nil (without (count_from first k) clocks)))
