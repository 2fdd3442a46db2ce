-- The plain design has as many of each kind, and the same inputs.
use Rattle.std.proofs.Common.{◌≡◌, ℕ, zero, suc, ◌+◌, length, Bool, true, false, cond, if◌then◌else◌, List, [], ◌∷◌, map, refl, sym, ap, ◌∙◌, subst, arith}
use Rattle.std.specs.Prelude.{Some, slice_get, sum_by, filter}
use Rattle.std.proofs.lemmas.List.{length-map}
use Rattle.std.proofs.lemmas.List.Sums.{sum_by-cons}
use Rattle.vs_design.specs.Expressions as E
use Rattle.vs_design.specs.Designs as D
use Rattle.vs_design.specs.Values.{count_from}
use Rattle.vs_flat.specs.declared.processes.Signal.{Signal}
use Rattle.vs_flat.specs.Arena.{Arena, signal_length, bit_count, inputs_from, top_inputs}
use Rattle.vs_flat.specs.Trees.{signal_of, signals_from, signal_at, tree_at, statement_at}
use Rattle.vs_flat.specs.DesignOf.{callee_of, scope_of, process_of, initial_of, arena_signals, arena_trees, arena_statements, design_of}
use Rattle.vs_flat.specs.Laws.{HasCounts}
use Rattle.vs_flat.proofs.Growing.{each_signal, length-signals, length-arena_trees, length-arena_statements}

pub signal_bits : (n : ℕ) (ss : List Signal) → sum_by E.signal_length (signals_from n ss) ≡ bit_count ss
signal_bits n [] = refl
signal_bits n (s ∷ ss) =
    sum_by-cons E.signal_length (signal_of n s) (signals_from (suc n) ss)
    ∙ ap (λ k. signal_length s + k) (signal_bits (suc n) ss)
    ∙ sym (sum_by-cons signal_length s ss)

length_count : (first n : ℕ) → length (count_from first n) ≡ n
length_count first zero = refl
length_count first (suc n) = ap suc (length_count (suc first) n)

pub counts : (a : Arena) → HasCounts a
counts a = record {
  scopes = length-map a.scopes scope_of;
  signals = length-signals a;
  bits = signal_bits 0 a.signals;
  processes = length-map a.processes (process_of (signal_at (arena_signals a)) (tree_at (arena_trees a)) (statement_at (arena_statements a)));
  initials = length-map a.initials (initial_of (statement_at (arena_statements a)));
  expressions = length-arena_trees a;
  statements = length-arena_statements a;
  functions = length-map (count_from 0 (length a.bodies)) (callee_of a (tree_at (arena_trees a))) ∙ length_count 0 (length a.bodies);
}

-- one more input, or none
step : (b : Bool) (f : ℕ → E.Signal) (n : ℕ) (ns : List ℕ) (s : E.Signal) (ss : List E.Signal) → f n ≡ s → map f ns ≡ ss → map f (if b then (n ∷ ns) else ns) ≡ cond b (s ∷ ss) ss
step true f n ns s ss h e = cc
step false f n ns s ss h e = e

inputs_are : (f : ℕ → E.Signal) (n : ℕ) (ss : List Signal) → ((i : ℕ) (s : Signal) → slice_get ss i ≡ Some s → f (n + i) ≡ signal_of (n + i) s)
    → map f (inputs_from n ss) ≡ filter (λ (s : E.Signal). s.input) (signals_from n ss)
inputs_are f n [] h = refl
inputs_are f n (s ∷ ss) h =
    step s.input f n (inputs_from (suc n) ss) (signal_of n s) (filter (λ (t : E.Signal). t.input) (signals_from (suc n) ss)) (subst (λ k. f k ≡ signal_of k s) (omega arith) (h 0 s refl))
    (inputs_are f (suc n) ss (λ i t at. subst (λ k. f k ≡ signal_of k t) (omega arith) (h (suc i) t at)))

pub inputs : (a : Arena) → map (signal_at (arena_signals a)) (top_inputs a) ≡ D.top_inputs (design_of a)
inputs a = inputs_are (signal_at (arena_signals a)) 0 a.signals (λ i s at. subst (λ k. signal_at (arena_signals a) k ≡ signal_of k s) (omega arith) (each_signal a i s at))
