-- The data inputs and the outputs, signal by signal.
use Rattle.std.proofs.Common.{◌≡◌, ℕ, zero, suc, Bool, true, false, List, [], ◌∷◌, ◌++◌, ◌&&◌, ◌||◌, not, ◌==◌, if◌then◌else◌, ◌+◌, ◌-◌, ◌^◌, ◌<◌, ◌≤◌, nat_lt, nat_le, eqb-true, length, map, drop, slice_get, Option, Some, None, arith, append-nil, append_assoc, drop_of_length-le, sym, ap, ◌∙◌, refl, subst, All}
use Rattle.std.specs.Prelude.{is_some, nat_eq, sum_by}
use Rattle.std.specs.Cmp.Lexicographic.{pointwise}
use Rattle.std.specs.List.{filter, list_all, list_any}
use Rattle.std.proofs.lemmas.Bool.{and_parts}
use Rattle.std.proofs.lemmas.List.{length-map}
use Rattle.std.proofs.lemmas.List.Elements.{All-cons, All-nil}
use Rattle.std.proofs.lemmas.List.Sums.{sum_by-cons}
use Rattle.vs_four.specs.declared.Range.{Range}
use Rattle.vs_four.specs.Selects.{range_length, is_descending}
use Rattle.vs_design.specs.Expressions.{Signal, range_or_one, words_length, signal_length, addresses}
use Rattle.vs_design.specs.Designs.{Design, bit_count}
use Rattle.vs_design.specs.Elaborated.{is_lawful_range, is_declared, are_lawful_words, is_array_net, is_lawful_memory, have_bits_from, IsLawfulDesign}
use Rattle.vs_design.specs.Clocks.{same_name}
use Rattle.vs_design.specs.Footprints.{is_memory, is_variable, contains}
use Rattle.vs_flat.specs.declared.processes.Signal as F
use Rattle.vs_flat.specs.Arena.{Arena}
use Rattle.vs_flat.specs.Trees.{signal_of, signals_from}
use Rattle.vs_flat.specs.DesignOf.{arena_signals, design_of}
use Rattle.vs_flat.specs.Lawful.{IsLawful}
use Rattle.vs_program.specs.declared.compiled.Span.{Span}
use Rattle.vs_program.specs.Program.{spans}
use Rattle.vs_program.specs.Compiled.{span_of}
use Rattle.vs_stim.specs.Header.{IsInput, IsOutput}
use Rattle.vs_rounds.specs.Inputs.{is_data_input, input_of, inputs_among, is_output, output_of, outputs_among}

some_is : {A : Type 0} (x y : A) → Some x ≡ Some y → x ≡ y
some_is x y e = cc

-- the test holds at each place
all_at : {A : Type 0} (test : A → Bool) (xs : List A) (n : ℕ) (x : A) → list_all test xs ≡ true → slice_get xs n ≡ Some x → test x ≡ true
all_at test [] n x h e = cc
all_at test (y ∷ ys) zero x h e = subst (λ z. test z ≡ true) (some_is y x e) (and_parts (test y) (list_all test ys) h).0
all_at test (y ∷ ys) (suc n) x h e = all_at test ys n x (and_parts (test y) (list_all test ys) h).1 e

-- the element at a place, and those after it
drop_some : {A : Type 0} (xs : List A) (n : ℕ) (x : A) → slice_get xs n ≡ Some x → drop n xs ≡ x ∷ drop (n + 1) xs
drop_some [] n x e = cc
drop_some (y ∷ ys) zero x e = ap (λ z. z ∷ ys) (some_is y x e)
drop_some (y ∷ ys) (suc n) x e =
    let next : suc (n + 1) ≡ suc n + 1 = omega arith in
    drop_some ys n x e ∙ ap (λ m. x ∷ drop m (y ∷ ys)) next

-- a signal of the arena is one of the design under the same number
signal_number : (k : ℕ) (ss : List F.Signal) (n : ℕ) (s : F.Signal) → slice_get ss n ≡ Some s → slice_get (signals_from k ss) n ≡ Some (signal_of (k + n) s)
signal_number k [] n s e = cc
signal_number k (t ∷ ss) zero s e =
    let at : k ≡ k + 0 = omega arith in
    ap (λ (x : F.Signal). Some (signal_of k x)) (some_is t s e) ∙ ap (λ m. Some (signal_of m s)) at
signal_number k (t ∷ ss) (suc n) s e =
    let at : suc k + n ≡ k + suc n = omega arith in
    signal_number (suc k) ss n s e ∙ ap (λ m. Some (signal_of m s)) at

pub signal_there : (a : Arena) (n : ℕ) (s : F.Signal) → slice_get a.signals n ≡ Some s → slice_get (arena_signals a) n ≡ Some (signal_of n s)
signal_there a n s e =
    let at : 0 + n ≡ n = omega arith in
    signal_number 0 a.signals n s e ∙ ap (λ m. Some (signal_of m s)) at

length-signals_from : (k : ℕ) (ss : List F.Signal) → length (signals_from k ss) ≡ length ss
length-signals_from k [] = refl
length-signals_from k (s ∷ ss) = ap suc (length-signals_from (suc k) ss)

-- ---- each data input has 1 to 64 bits

le_of : (m n : ℕ) → nat_le m n ≡ true → m ≤ n
le_of m n h = grind arith

one_or_more : (r : Option Range) → 1 ≤ range_or_one r
one_or_more None = omega arith
one_or_more (Some r) = by (is_descending r)
  where
    by : (down : Bool) → 1 ≤ (if down then suc (r.left - r.right) else suc (r.right - r.left))
    by true = omega arith
    by false = omega arith

at_most_64 : (r : Option Range) → is_lawful_range r ≡ true → range_or_one r ≤ 64
at_most_64 None h = omega arith
at_most_64 (Some r) h = le_of (range_length r) 64 (and_parts (nat_le r.left 65535 && nat_le r.right 65535) (nat_le (range_length r) 64) h).1

few_bits : (d : Design) (s : Signal) → is_declared d s ≡ true → range_or_one s.range ≤ 64
few_bits d s h =
    let first = (and_parts (nat_lt s.scope (length d.scopes) && is_lawful_range s.range) (not s.input || (s.net && (s.scope == 0))) h).0 in
    at_most_64 s.range (and_parts (nat_lt s.scope (length d.scopes)) (is_lawful_range s.range) first).1

-- a memory is no input, and the bits of an input are those of its range
plain_input : (s : Signal) → is_lawful_memory s ≡ true → s.input ≡ true → signal_length s ≡ range_or_one s.range
plain_input s h e = long s.words (none (is_some s.words) s.net s.input (range_length (addresses s) == 1) (and_parts (are_lawful_words s.words) (not (is_memory s) || (is_variable s || is_array_net s)) h).1 e)
  where
    none : (memory net input one : Bool) → (not memory || ((not net && not input) || (net && not input && one))) ≡ true → input ≡ true → memory ≡ false
    none false net input one h e = refl
    none true net false one h e = cc
    none true true true one h e = cc
    none true false true one h e = cc

    long : (words : Option Range) → is_some words ≡ false → words_length words (range_or_one s.range) ≡ range_or_one s.range
    long None e = refl
    long (Some r) e = cc

-- an input has 1 to 64 bits
pub record HasFew (s : Signal) : Type 0 where
  pub some : 1 ≤ signal_length s
  pub at_most_64 : signal_length s ≤ 64

has_few : (d : Design) (clocks : List ℕ) (s : Signal) → is_declared d s ≡ true → is_lawful_memory s ≡ true → is_data_input clocks s ≡ true → HasFew s
has_few d clocks s declared memory input =
    let long = plain_input s memory (and_parts s.input (not (contains clocks s.first)) input).0 in
    record { some = omega (arith, long, one_or_more s.range); at_most_64 = omega (arith, long, few_bits d s declared) }

pub few_bits_at : (a : Arena) (clocks : List ℕ) → IsLawful a → (n : ℕ) (s : F.Signal) → slice_get a.signals n ≡ Some s → is_data_input clocks (signal_of n s) ≡ true → HasFew (signal_of n s)
few_bits_at a clocks lawful n s e input =
    let here = signal_there a n s e in
    has_few (design_of a) clocks (signal_of n s) (all_at (is_declared (design_of a)) (arena_signals a) n (signal_of n s) lawful.design.declared here) (all_at is_lawful_memory (arena_signals a) n (signal_of n s) lawful.design.memories here) input

inputs_of : (d : Design) (resets selects : List ℕ) (clocks : List ℕ) (ss : List Signal) → list_all (is_declared d) ss ≡ true → list_all is_lawful_memory ss ≡ true → All IsInput (inputs_among resets selects clocks ss)
inputs_of d resets selects clocks [] h m = All-nil IsInput
inputs_of d resets selects clocks (s ∷ ss) h m =
    let declared = and_parts (is_declared d s) (list_all (is_declared d) ss) h in
    let memories = and_parts (is_lawful_memory s) (list_all is_lawful_memory ss) m in
    here (is_data_input clocks s) (λ input. has_few d clocks s declared.0 memories.0 input) (inputs_of d resets selects clocks ss declared.1 memories.1)
  where
    here : (c : Bool) → (c ≡ true → HasFew s) → All IsInput (inputs_among resets selects clocks ss)
        → All IsInput (map (input_of resets selects) (if c then (s ∷ filter (is_data_input clocks) ss) else filter (is_data_input clocks) ss))
    here true few others = All-cons IsInput (input_of resets selects s) (inputs_among resets selects clocks ss) (record { some = (few refl).some; at_most_64 = (few refl).at_most_64 }) others
    here false few others = others

pub are_inputs : (resets selects : List ℕ) (a : Arena) (clocks : List ℕ) → IsLawful a → All IsInput (inputs_among resets selects clocks (design_of a).signals)
are_inputs resets selects a clocks lawful = inputs_of (design_of a) resets selects clocks (design_of a).signals lawful.design.declared lawful.design.memories

-- ---- the signals in order

-- one more signal, which may be one of those that are kept
pub more : {A : Type 0} (f : Signal → A) (keep : Signal → Bool) (a : Arena) (n : ℕ) (s : F.Signal) (test : Bool) (so_far new : List A) → slice_get a.signals n ≡ Some s
    → test ≡ keep (signal_of n s)
    → new ≡ so_far ++ (if test then (f (signal_of n s) ∷ []) else [])
    → so_far ++ map f (filter keep (drop n (arena_signals a))) ≡ map f (filter keep (arena_signals a))
    → new ++ map f (filter keep (drop (n + 1) (arena_signals a))) ≡ map f (filter keep (arena_signals a))
more {A} f keep a n s test so_far new at is pushed so_far_is =
    ap (λ (xs : List A). xs ++ map f (filter keep rest)) pushed
    ∙ append_assoc so_far (if test then (f (signal_of n s) ∷ []) else []) (map f (filter keep rest))
    ∙ ap (λ (xs : List A). so_far ++ xs) (one test is ∙ ap (λ (xs : List Signal). map f (filter keep xs)) (sym (drop_some (arena_signals a) n (signal_of n s) (signal_there a n s at))))
    ∙ so_far_is
  where
    rest : List Signal
    rest = drop (n + 1) (arena_signals a)

    one : (t : Bool) → t ≡ keep (signal_of n s) → (if t then (f (signal_of n s) ∷ []) else []) ++ map f (filter keep rest) ≡ map f (filter keep (signal_of n s ∷ rest))
    one t e = ap (λ (c : Bool). (if c then (f (signal_of n s) ∷ []) else []) ++ map f (filter keep rest)) e ∙ both (keep (signal_of n s))
      where
        both : (c : Bool) → (if c then (f (signal_of n s) ∷ []) else []) ++ map f (filter keep rest) ≡ map f (if c then (signal_of n s ∷ filter keep rest) else filter keep rest)
        both true = refl
        both false = refl

pub all : {A : Type 0} (f : Signal → A) (keep : Signal → Bool) (a : Arena) (n count : ℕ) (so_far : List A) → count ≡ length a.signals → count ≤ n
    → so_far ++ map f (filter keep (drop n (arena_signals a))) ≡ map f (filter keep (arena_signals a)) → so_far ≡ map f (filter keep (design_of a).signals)
all f keep a n count so_far is past so_far_is =
    let end : length (arena_signals a) ≤ n = omega (arith, is, past, length-signals_from 0 a.signals) in
    sym (append-nil so_far) ∙ ap (λ r. so_far ++ r) (sym (ap (λ (xs : List Signal). map f (filter keep xs)) (drop_of_length-le (arena_signals a) end))) ∙ so_far_is

-- ---- outputs

-- equality of names is that of their bytes
pub same_is : (xs ys : List ℕ) → pointwise nat_eq xs ys ≡ same_name xs ys
same_is [] [] = refl
same_is [] (y ∷ ys) = refl
same_is (x ∷ xs) [] = refl
same_is (x ∷ xs) (y ∷ ys) = ap {B = Bool} (λ t. (x == y) && t) (same_is xs ys)

plain_output : (d : Design) (names : List (List ℕ)) (s : Signal) → is_declared d s ≡ true → is_output names s ≡ true → HasFew s
plain_output d names s declared output =
    let parts = and_parts (s.scope == 0) (not (is_memory s) && list_any (same_name s.name) names) output in
    let plain = and_parts (not (is_memory s)) (list_any (same_name s.name) names) parts.1 in
    let long : signal_length s ≡ range_or_one s.range = of_words s.words plain.0 in
    record { some = omega (arith, long, one_or_more s.range); at_most_64 = omega (arith, long, few_bits d s declared) }
  where
    of_words : (words : Option Range) → not (is_some words) ≡ true → words_length words (range_or_one s.range) ≡ range_or_one s.range
    of_words None e = refl
    of_words (Some r) e = cc

pub few_output_at : (a : Arena) (names : List (List ℕ)) → IsLawful a → (n : ℕ) (s : F.Signal) → slice_get a.signals n ≡ Some s → is_output names (signal_of n s) ≡ true → HasFew (signal_of n s)
few_output_at a names lawful n s e output =
    plain_output (design_of a) names (signal_of n s) (all_at (is_declared (design_of a)) (arena_signals a) n (signal_of n s) lawful.design.declared (signal_there a n s e)) output

outputs_of : (d : Design) (names : List (List ℕ)) (ss : List Signal) → list_all (is_declared d) ss ≡ true → All IsOutput (outputs_among names ss)
outputs_of d names [] h = All-nil IsOutput
outputs_of d names (s ∷ ss) h =
    let declared = and_parts (is_declared d s) (list_all (is_declared d) ss) h in
    here (is_output names s) (λ output. plain_output d names s declared.0 output) (outputs_of d names ss declared.1)
  where
    here : (c : Bool) → (c ≡ true → HasFew s) → All IsOutput (outputs_among names ss)
        → All IsOutput (map output_of (if c then (s ∷ filter (is_output names) ss) else filter (is_output names) ss))
    here true few others = All-cons IsOutput (output_of s) (outputs_among names ss) (record { some = (few refl).some; at_most_64 = (few refl).at_most_64 }) others
    here false few others = others

pub are_outputs : (names : List (List ℕ)) (a : Arena) → IsLawful a → All IsOutput (outputs_among names (design_of a).signals)
are_outputs names a lawful = outputs_of (design_of a) names (design_of a).signals lawful.design.declared

-- ---- the bits of outputs

true_le : (m n : ℕ) → m ≤ n → nat_le m n ≡ true
true_le m n h = grind arith

fits : (count : ℕ) (s : Signal) → HasFew s → s.first + signal_length s ≤ count → spans count (span_of s) ≡ true
fits count s few inside =
    ap (λ z. z && nat_le (signal_length s) 64 && nat_le (s.first + signal_length s) count) (true_le 1 (signal_length s) few.some)
    ∙ ap (λ z. z && nat_le (s.first + signal_length s) count) (true_le (signal_length s) 64 few.at_most_64)
    ∙ true_le (s.first + signal_length s) count inside

-- they are among the design's
spans_fit : (d : Design) (names : List (List ℕ)) (k count : ℕ) (ss : List Signal) → list_all (is_declared d) ss ≡ true → have_bits_from k ss ≡ true → k + sum_by signal_length ss ≤ count
    → list_all (spans count) (map span_of (filter (is_output names) ss)) ≡ true
spans_fit d names k count [] declared numbered l = refl
spans_fit d names k count (s ∷ ss) declared numbered l =
    let a = and_parts (is_declared d s) (list_all (is_declared d) ss) declared in
    let b = and_parts (s.first == k) (have_bits_from (k + signal_length s) ss) numbered in
    let first : s.first ≡ k = eqb-true s.first k b.0 in
    let sum = sum_by-cons signal_length s ss in
    let inside : s.first + signal_length s ≤ count = omega (arith, first, sum, l) in
    let rest : k + signal_length s + sum_by signal_length ss ≤ count = omega (arith, sum, l) in
    here (is_output names s) (λ output. fits count s (plain_output d names s a.0 output) inside) (spans_fit d names (k + signal_length s) count ss a.1 b.1 rest)
  where
    here : (c : Bool) → (c ≡ true → spans count (span_of s) ≡ true) → list_all (spans count) (map span_of (filter (is_output names) ss)) ≡ true
        → list_all (spans count) (map span_of (if c then (s ∷ filter (is_output names) ss) else filter (is_output names) ss)) ≡ true
    here true fit others = ap (λ z. z && list_all (spans count) (map span_of (filter (is_output names) ss))) (fit refl) ∙ others
    here false fit others = others

pub are_inside : (d : Design) (names : List (List ℕ)) (count : ℕ) → IsLawfulDesign d → count ≡ bit_count d → list_all (spans count) (map span_of (filter (is_output names) d.signals)) ≡ true
are_inside d names count lawful is = spans_fit d names 0 count d.signals lawful.declared lawful.bits_numbered (omega (arith, is))

-- each output has a bit
as_many : (d : Design) (names : List (List ℕ)) (ss : List Signal) → list_all (is_declared d) ss ≡ true → length (filter (is_output names) ss) ≤ sum_by signal_length ss
as_many d names [] declared = omega arith
as_many d names (s ∷ ss) declared =
    let a = and_parts (is_declared d s) (list_all (is_declared d) ss) declared in
    here (is_output names s) (λ output. (plain_output d names s a.0 output).some) (as_many d names ss a.1)
  where
    here : (c : Bool) → (c ≡ true → 1 ≤ signal_length s) → length (filter (is_output names) ss) ≤ sum_by signal_length ss
        → length (if c then (s ∷ filter (is_output names) ss) else filter (is_output names) ss) ≤ sum_by signal_length (s ∷ ss)
    here true some others = let one = some refl in let sum = sum_by-cons signal_length s ss in omega (arith, one, sum, others)
    here false some others = let sum = sum_by-cons signal_length s ss in omega (arith, sum, others)

pub few_spans : (names : List (List ℕ)) (a : Arena) (xs : List Span) → IsLawful a → xs ≡ map span_of (filter (is_output names) (design_of a).signals) → length xs < 2 ^ 32
few_spans names a xs lawful is =
    let long = ap (λ (ys : List Span). length ys) is ∙ length-map (filter (is_output names) (design_of a).signals) span_of in
    let most = as_many (design_of a) names (design_of a).signals lawful.design.declared in
    let few = lawful.design.few_bits in
    omega (arith, long, most, few)
