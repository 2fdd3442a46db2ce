-- The bits of the outputs that stimuli may name.
use Rattle.std.proofs.Common.{◌≡◌, ◌∙◌, ◌==◌, ◌&&◌, ◌||◌, ℕ, Bool, true, false, not, cond, List, [], ◌∷◌, ◌++◌, map, sym, ap, refl, arith, append_assoc}
use Rattle.std.specs.List.{filter, list_any}
use Rattle.std.proofs.lemmas.Bool.{and_parts, eqb-true}
use Rattle.std.proofs.lemmas.Bool.Decides.{nat_tests}
use Rattle.vs_design.specs.Expressions.{Signal, signal_length}
use Rattle.vs_design.specs.Footprints.{is_memory}
use Rattle.vs_design.specs.Clocks.{same_name}
use Rattle.vs_program.specs.declared.compiled.Span.{Span}
use Rattle.vs_program.specs.Compiled.{span_of}
use Rattle.vs_stim.specs.declared.input.Output.{Output}
use Rattle.vs_stim.specs.Header.{output_lengths}
use Rattle.vs_rounds.specs.Inputs.{is_output, output_of}
use Rattle.vs_rounds.specs.Missed.{OutputsHaveSpans, SpansHaveLengths}

same_is : (a b : List ℕ) → same_name a b ≡ true → a ≡ b
same_is [] [] h = refl
same_is [] (y ∷ ys) h = absurd (cc)
same_is (x ∷ xs) [] h = absurd (cc)
same_is (x ∷ xs) (y ∷ ys) h =
    let parts = and_parts (x == y) (same_name xs ys) h in
    ap (λ (n : ℕ). n ∷ xs) (eqb-true x y parts.0) ∙ ap (λ (ns : List ℕ). y ∷ ns) (same_is xs ys parts.1)

same_itself : (xs : List ℕ) → same_name xs xs ≡ true
same_itself [] = refl
same_itself (x ∷ xs) =
    let here : (x == x) ≡ true = grind (arith, nat_tests) in
    ap (λ (b : Bool). b && same_name xs xs) here ∙ same_itself xs

-- the names by which stimuli name signals
abbrev names_in : List Signal → List (List ℕ)
names_in xs = map (λ (o : Output). o.name) (map output_of xs)

-- one of these names is this
abbrev has_name : List ℕ → List (List ℕ) → Bool
has_name n names = list_any (same_name n) names

named_here : (names : List (List ℕ)) (x : Signal) (n : List ℕ) (b later : Bool) → same_name n x.name ≡ b → is_output names x ≡ true → (later ≡ true → has_name n names ≡ true) → (b || later) ≡ true → has_name n names ≡ true
named_here names x n true later same is more h =
    let parts = and_parts (x.scope == 0) (not (is_memory x) && has_name x.name names) is in
    ap (λ (m : List ℕ). has_name m names) (same_is n x.name same) ∙ (and_parts (not (is_memory x)) (has_name x.name names) parts.1).1
named_here names x n false later same is more h = more h

named_step : (names : List (List ℕ)) (x : Signal) (rest : List Signal) (n : List ℕ) (b : Bool) → is_output names x ≡ b → (has_name n (names_in rest) ≡ true → has_name n names ≡ true)
    → has_name n (names_in (cond b (x ∷ rest) rest)) ≡ true → has_name n names ≡ true
named_step names x rest n true is more h = named_here names x n (same_name n x.name) (has_name n (names_in rest)) refl is more h
named_step names x rest n false is more h = more h

-- each name of an output is one of those that outputs may have
named : (names : List (List ℕ)) (xs : List Signal) (n : List ℕ) → has_name n (names_in (filter (is_output names) xs)) ≡ true → has_name n names ≡ true
named names [] n h = absurd (cc)
named names (x ∷ xs) n h = named_step names x (filter (is_output names) xs) n (is_output names x) refl (named names xs n) h

or_true : (b : Bool) → (b || true) ≡ true
or_true true = refl
or_true false = refl

covered : (x : Signal) (before after : List Signal) → has_name x.name (names_in (before ++ x ∷ after)) ≡ true
covered x [] after = ap (λ (b : Bool). b || has_name x.name (names_in after)) (same_itself x.name)
covered x (y ∷ before) after = ap (λ (b : Bool). same_name x.name y.name || b) (covered x before after) ∙ or_true (same_name x.name y.name)

rest_of : (all before ys : List Signal) (x : Signal) (b : Bool) → all ≡ before ++ cond b (x ∷ ys) ys → (more : List Signal) × (all ≡ more ++ ys)
rest_of all before ys x true e = (before ++ x ∷ [], e ∙ sym (append_assoc before (x ∷ []) ys))
rest_of all before ys x false e = (before, e)

in_front : (all before ys : List Signal) (x : Signal) (b : Bool) → all ≡ before ++ cond b (x ∷ ys) ys → b ≡ true → has_name x.name (names_in all) ≡ true
in_front all before ys x true e h = ap (λ (xs : List Signal). has_name x.name (names_in xs)) e ∙ covered x before ys
in_front all before ys x false e h = absurd (cc)

tests_same : (a b c d : Bool) → (d ≡ true → c ≡ true) → ((a && (b && c)) ≡ true → d ≡ true) → (a && (b && d)) ≡ (a && (b && c))
tests_same false b c d f g = refl
tests_same true false c d f g = refl
tests_same true true true true f g = refl
tests_same true true true false f g = g refl
tests_same true true false true f g = sym (f refl)
tests_same true true false false f g = refl

filters : (names : List (List ℕ)) (all : List Signal) → ((n : List ℕ) → has_name n (names_in all) ≡ true → has_name n names ≡ true) → (xs before : List Signal) → all ≡ before ++ filter (is_output names) xs
    → filter (is_output (names_in all)) xs ≡ filter (is_output names) xs
filters names all known [] before e = refl
filters names all known (x ∷ xs) before e =
    let ys = filter (is_output names) xs in
    let zs = filter (is_output (names_in all)) xs in
    let more = rest_of all before ys x (is_output names x) e in
    let same = tests_same (x.scope == 0) (not (is_memory x)) (has_name x.name names) (has_name x.name (names_in all)) (known x.name) (in_front all before ys x (is_output names x) e) in
    ap (λ (b : Bool). cond b (x ∷ zs) zs) same ∙ ap (λ (rest : List Signal). cond (is_output names x) (x ∷ rest) rest) (filters names all known xs more.0 more.1)

pub outputs_have_spans : OutputsHaveSpans
outputs_have_spans d names = ap (map span_of) (filters names (filter (is_output names) d.signals) (named names d.signals) d.signals [] refl)

lengths_are : (xs : List Signal) → map (λ (s : Span). s.length) (map span_of xs) ≡ output_lengths (map output_of xs)
lengths_are [] = refl
lengths_are (x ∷ xs) = ap (λ (ns : List ℕ). signal_length x ∷ ns) (lengths_are xs)

pub spans_have_lengths : SpansHaveLengths
spans_have_lengths d names = ap (map (λ (s : Span). s.length)) (outputs_have_spans d names) ∙ lengths_are (filter (is_output names) d.signals)
