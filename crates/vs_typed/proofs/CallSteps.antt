-- The arguments of a call and the inputs of its function.
use Rattle.std.proofs.Common.{◌≡◌, ℕ, zero, suc, ◌+◌, ◌≤◌, ◌<◌, true, ◌&&◌, max, List, [], ◌∷◌, length, map, take, drop, get_or, Some, refl, sym, ap, ◌∙◌, subst, arith}
use Rattle.std.specs.Prelude.{slice_get}
use Rattle.std.proofs.lemmas.List.Sums.{sum_by-cons}
use Rattle.vs_design.specs.Expressions as E
use Rattle.vs_design.specs.Expressions.{Expression, Header, Items, items_of, width}
use Rattle.vs_design.specs.Statements.{Statement}
use Rattle.vs_design.specs.Designs.{Design}
use Rattle.vs_design.specs.Elaborated.{are_as_many, are_formed, is_formed, is_formed_header, is_formed_statement, is_nil, inside}
use Rattle.vs_design.specs.Rules.{mixed_in}
use Rattle.vs_design.specs.Sizes.{declared_length, weight}
use Rattle.vs_flat.specs.declared.processes.Signal.{Signal}
use Rattle.vs_flat.specs.declared.functions.Declared.{Declared}
use Rattle.vs_flat.specs.Arena.{Arena, declared_at, signal_length}
use Rattle.vs_flat.specs.DesignOf.{header_in}
use Rattle.vs_flat.specs.Trees.{signal_of, signals_from}
use Rattle.vs_sets.proofs.Fit.{and_left, and_right}
use Rattle.vs_typed.specs.Weights.{call_inputs, input_weight, capped}

-- ---- inputs

take_signals : (n first : ℕ) (ss : List Signal) → take n (signals_from first ss) ≡ signals_from first (take n ss)
take_signals zero first ss = refl
take_signals (suc n) first [] = refl
take_signals (suc n) first (s ∷ ss) = ap (λ ts. signal_of first s ∷ ts) (take_signals n (suc first) ss)

pub inputs_are : (a : Arena) (f : ℕ) (d : Declared) (slice : List Signal) → declared_at a f ≡ Some d → slice ≡ d.function.signals → (header_in (declared_at a f)).inputs ≡ signals_from 0 (take d.function.inputs slice)
inputs_are a f d slice at is = ap (λ o. (header_in o).inputs) at ∙ take_signals d.function.inputs 0 d.function.signals ∙ ap (λ ss. signals_from 0 (take d.function.inputs ss)) (sym is)

count_signals : (first : ℕ) (ss : List Signal) → length (signals_from first ss) ≡ length ss
count_signals first [] = refl
count_signals first (s ∷ ss) = ap suc (count_signals (suc first) ss)

as_many_items : (es : List Expression) (inputs : List E.Signal) → are_as_many (items_of es) inputs ≡ true → length es ≡ length inputs
as_many_items [] [] h = refl
as_many_items [] (i ∷ inputs) h = absurd (let z : ⊥ = cc in z)
as_many_items (e ∷ es) [] h = absurd (let z : ⊥ = cc in z)
as_many_items (e ∷ es) (i ∷ inputs) h = ap suc (as_many_items es inputs h)

map_count : (tree : ℕ → Expression) (ns : List ℕ) → length (map tree ns) ≡ length ns
map_count tree [] = refl
map_count tree (n ∷ ns) = ap suc (map_count tree ns)

-- a formed call has as many arguments as its function inputs
pub as_many_inputs : (d : Design) (place : ℕ) (header : Header) (st : Statement) (tree : ℕ → Expression) (arguments : List ℕ) (inputs : List Signal) → is_formed d (E.At place (E.Call header st (items_of (map tree arguments)))) ≡ true
    → header.inputs ≡ signals_from 0 inputs → length arguments ≡ length inputs
as_many_inputs d place header st tree arguments inputs formed is =
    let es = items_of (map tree arguments) in
    let many = and_right (is_formed_header d header && is_nil (mixed_in _ st) && is_formed_statement (inside d header) st) (are_as_many es header.inputs) (and_left _ (are_formed d es) formed) in
    sym (map_count tree arguments) ∙ as_many_items (map tree arguments) header.inputs many ∙ ap length is ∙ count_signals 0 inputs

pub one_of_first : (n : ℕ) (ss : List Signal) (k : ℕ) (s : Signal) → slice_get (take n ss) k ≡ Some s → slice_get ss k ≡ Some s
one_of_first zero ss k s h = absurd (let z : ⊥ = cc in z)
one_of_first (suc n) [] k s h = h
one_of_first (suc n) (t ∷ ss) zero s h = h
one_of_first (suc n) (t ∷ ss) (suc k) s h = one_of_first n ss k s h

-- ---- weights

one_more : (tree : ℕ → Expression) (arguments : List ℕ) (inputs : List Signal) (first k : ℕ) (input : Signal) → k < length arguments → slice_get inputs k ≡ Some input
    → call_inputs (map tree (drop k arguments)) (drop k (signals_from first inputs))
    ≡ input_weight input + weight (tree (get_or arguments k 0)) (max (width (tree (get_or arguments k 0))) (signal_length input)) + call_inputs (map tree (drop (suc k) arguments)) (drop (suc k) (signals_from first inputs))
one_more tree [] inputs first k input h at = absurd (omega (arith, h))
one_more tree (x ∷ arguments) [] first k input h at = absurd (let z : ⊥ = cc in z)
one_more tree (x ∷ arguments) (i ∷ inputs) first zero input h at =
    let same : i ≡ input = cc in
    let sum = sum_by-cons declared_length (signal_of first i) (signals_from (suc first) inputs) in
    subst (λ (j : Signal). call_inputs (map tree (x ∷ arguments)) (signals_from first (i ∷ inputs)) ≡ input_weight j + weight (tree x) (max (width (tree x)) (signal_length j)) + call_inputs (map tree arguments) (signals_from (suc first) inputs)) same
    (omega (arith, sum))
one_more tree (x ∷ arguments) (i ∷ inputs) first (suc k) input h at = one_more tree arguments inputs (suc first) k input (omega (arith, h)) at

pub argument_step : (tree : ℕ → Expression) (arguments : List ℕ) (inputs : List Signal) (k sum after : ℕ) (input : Signal) → k < length arguments → slice_get inputs k ≡ Some input
    → after ≡ capped (sum + (input_weight input + weight (tree (get_or arguments k 0)) (max (width (tree (get_or arguments k 0))) (signal_length input))))
    → capped (after + call_inputs (map tree (drop (k + 1) arguments)) (drop (k + 1) (signals_from 0 inputs))) ≡ capped (sum + call_inputs (map tree (drop k arguments)) (drop k (signals_from 0 inputs)))
argument_step tree arguments inputs k sum after input h at is =
    let on : k + 1 ≡ suc k = omega arith in
    let e = one_more tree arguments inputs 0 k input h at in
    ap (λ n. capped (after + call_inputs (map tree (drop n arguments)) (drop n (signals_from 0 inputs)))) on ∙ omega (arith, e, is)

pub arguments_done : (tree : ℕ → Expression) (arguments : List ℕ) (inputs : List E.Signal) (k : ℕ) → length arguments ≤ k → length inputs ≤ k → call_inputs (map tree (drop k arguments)) (drop k inputs) ≡ 0
arguments_done tree arguments inputs k h i = ap (λ es. call_inputs (map tree es) (drop k inputs)) (none arguments k h) ∙ ap (λ ss. call_inputs [] ss) (gone inputs k i)
  where
    none : (xs : List ℕ) (k : ℕ) → length xs ≤ k → drop k xs ≡ []
    none [] zero h = refl
    none [] (suc k) h = refl
    none (x ∷ xs) zero h = absurd (omega (arith, h))
    none (x ∷ xs) (suc k) h = none xs k (omega (arith, h))

    gone : (xs : List E.Signal) (k : ℕ) → length xs ≤ k → drop k xs ≡ []
    gone [] zero h = refl
    gone [] (suc k) h = refl
    gone (x ∷ xs) zero h = absurd (omega (arith, h))
    gone (x ∷ xs) (suc k) h = gone xs k (omega (arith, h))

pub inputs_count : (ss : List Signal) → length (signals_from 0 ss) ≡ length ss
inputs_count ss = count_signals 0 ss
