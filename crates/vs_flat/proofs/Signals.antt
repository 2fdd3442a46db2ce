-- Signals added one after the other.
use Rattle.std.proofs.Common.{◌≡◌, ℕ, suc, ◌+◌, ◌-◌, ◌*◌, ◌≤◌, ◌^◌, Bool, true, false, if◌then◌else◌, List, [], ◌∷◌, ◌++◌, length, ap, ◌∙◌, sym, arith, append-nil}
use Rattle.std.proofs.lemmas.List.Sums.{sum_by-append}
use Rattle.std.proofs.lemmas.Bool.{cond_both}
use Rattle.vs_four.specs.Selects.{is_descending, range_length}
use Rattle.vs_four.specs.declared.Range.{Range}
use Rattle.std.specs.Prelude.{Option, None, Some}
use Rattle.std.proofs.Math.Nat.{one-le-mul, mul-le-mul_right}
use Rattle.vs_design.specs.Expressions.{range_or_one, words_length}
use Rattle.vs_flat.specs.declared.processes.Signal.{Signal}
use Rattle.vs_flat.specs.Arena.{Arena, signal_length, bit_count, inputs_from, IsWithinLimits}

-- a signal has a bit
pub one≤range_or_one : (r : Option Range) → 1 ≤ range_or_one r
one≤range_or_one None = omega arith
one≤range_or_one (Some r) = cond_both (is_descending r) (suc (r.left - r.right)) (suc (r.right - r.left)) (λ n. 1 ≤ n) (λ _. omega arith) (λ _. omega arith)

pub one≤signal_length : (s : Signal) → 1 ≤ signal_length s
one≤signal_length s = go s.words (range_or_one s.range) (one≤range_or_one s.range)
  where
    go : (o : Option Range) (k : ℕ) → 1 ≤ k → 1 ≤ words_length o k
    go None k h = h
    go (Some r) k h = one-le-mul (one≤range_or_one (Some r)) h

-- and no more bits in a word than in all words
pub word≤signal_length : (s : Signal) → range_or_one s.range ≤ signal_length s
word≤signal_length s = go s.words (range_or_one s.range)
  where
    go : (o : Option Range) (k : ℕ) → k ≤ words_length o k
    go None k = omega arith
    go (Some r) k =
        let m : 1 * k ≤ range_length r * k = mul-le-mul_right k (one≤range_or_one (Some r)) in
        omega (arith, m)

-- so there are no more signals than bits
pub length≤bit_count : (ss : List Signal) → length ss ≤ bit_count ss
length≤bit_count [] = omega arith
length≤bit_count (s ∷ ss) =
    let more : bit_count (s ∷ ss) ≡ (0 + signal_length s) + bit_count ss = sum_by-append signal_length (s ∷ []) ss in
    omega (arith, more, one≤signal_length s, length≤bit_count ss)

pub bit_count-append : (ss : List Signal) (s : Signal) → bit_count (ss ++ s ∷ []) ≡ bit_count ss + signal_length s
bit_count-append ss s = sum_by-append signal_length ss (s ∷ []) ∙ ap (λ n. bit_count ss + n) (omega arith)

-- this number, or none
abbrev pub one_if : Bool → ℕ → List ℕ
one_if b n = if b then (n ∷ []) else []

step : (b : Bool) (n : ℕ) (all rest last : List ℕ) → all ≡ rest ++ last → (if b then (n ∷ all) else all) ≡ (if b then (n ∷ rest) else rest) ++ last
step true n all rest last e = ap (λ xs. n ∷ xs) e
step false n all rest last e = e

-- one more input, or none
pub inputs_from-append : (n : ℕ) (ss : List Signal) (s : Signal) → inputs_from n (ss ++ s ∷ []) ≡ inputs_from n ss ++ one_if s.input (n + length ss)
inputs_from-append n [] s = ap (one_if s.input) (omega arith)
inputs_from-append n (t ∷ ss) s =
    step t.input n (inputs_from (suc n) (ss ++ s ∷ [])) (inputs_from (suc n) ss) (one_if s.input (n + length (t ∷ ss)))
    (inputs_from-append (suc n) ss s ∙ ap (λ m. inputs_from (suc n) ss ++ one_if s.input m) (omega arith))

pub within_with_signal : (a : Arena) (s : Signal) (signals : List Signal) → IsWithinLimits a → bit_count a.signals + signal_length s ≤ 2 ^ 20 → signals ≡ a.signals ++ s ∷ [] → IsWithinLimits (record a { signals = signals })
within_with_signal a s signals w room e = record {
  scopes = w.scopes;
  nodes = w.nodes;
  statements = w.statements;
  functions = w.functions;
  bodies = w.bodies;
  bits = omega (arith, room, bit_count-append a.signals s, ap bit_count e);
  processes = w.processes;
  initials = w.initials;
}

-- the list of inputs, where this one is an input, and where it is none
pub inputs_with_signal : (s : Signal) (old signals : List Signal) (before : List ℕ) → before ≡ inputs_from 0 old → signals ≡ old ++ s ∷ [] → before ++ one_if s.input (length old) ≡ inputs_from 0 signals
inputs_with_signal s old signals before was e =
    ap (λ xs. xs ++ one_if s.input (length old)) was ∙ ap (λ n. inputs_from 0 old ++ one_if s.input n) (omega arith) ∙ sym (inputs_from-append 0 old s) ∙ ap (inputs_from 0) (sym e)

pub inputs_with_input : (s : Signal) (old signals : List Signal) (before room after : List ℕ) (n : ℕ) → s.input ≡ true → n ≡ length old → before ≡ inputs_from 0 old → signals ≡ old ++ s ∷ [] → room ≡ before → after ≡ room ++ n ∷ [] → after ≡ inputs_from 0 signals
inputs_with_input s old signals before room after n is_input counted was e kept more =
    let one : n ∷ [] ≡ one_if s.input (length old) = ap (λ m. m ∷ []) counted ∙ ap (λ b. one_if b (length old)) (sym is_input) in
    more ∙ ap (λ xs. xs ++ n ∷ []) kept ∙ ap (λ xs. before ++ xs) one ∙ inputs_with_signal s old signals before was e

pub inputs_with_other : (s : Signal) (old signals : List Signal) (before after : List ℕ) → s.input ≡ false → before ≡ inputs_from 0 old → signals ≡ old ++ s ∷ [] → after ≡ before → after ≡ inputs_from 0 signals
inputs_with_other s old signals before after is_other was e kept =
    kept ∙ sym (append-nil before) ∙ ap (λ b. before ++ one_if b (length old)) (sym is_other) ∙ inputs_with_signal s old signals before was e
