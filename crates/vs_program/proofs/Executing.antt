-- Runs of calls, one after the other.
use Rattle.std.proofs.Common.{◌≡◌, ℕ, zero, suc, ◌+◌, ◌<◌, ◌≤◌, List, [], ◌∷◌, ◌++◌, length, get_or, take, drop, append-nil, sym, ap, ◌∙◌, subst, arith}
use Rattle.std.specs.List.{All, Contains, flat_map}
use Rattle.std.proofs.lemmas.List.{take_more, take_all, take-append-drop}
use Rattle.std.proofs.lemmas.List.Concat.{flat_map-append}
use Rattle.std.proofs.lemmas.List.Sums.{sum_by-append}
use Rattle.std.proofs.lemmas.List.Elements.{All-contains, Contains-get_or, Contains-append_left, Contains-append_right}
use Rattle.vs_code.specs.Calls.{Call, State, AreCalled, call_cost, length_of}
use Rattle.vs_code.specs.Laws.{SequenceIsBoth}
use Rattle.vs_program.specs.declared.compiled.Run.{Run}
use Rattle.vs_program.specs.Phases.{calls_of_run, calls_of_runs}

-- run n
abbrev pub run_at : List Run → ℕ → Run
run_at runs n = get_or runs n (record { from = 0; to = 0 })

-- one run more
pub runs_more : (calls : List Call) (runs : List Run) (n : ℕ) → n < length runs
    → calls_of_runs calls (take (n + 1) runs) ≡ calls_of_runs calls (take n runs) ++ calls_of_run calls (run_at runs n)
runs_more calls runs n l =
    ap (calls_of_runs calls) (take_more runs n (record { from = 0; to = 0 }) l)
    ∙ flat_map-append (calls_of_run calls) (take n runs) (run_at runs n ∷ [])
    ∙ ap (λ (cs : List Call). calls_of_runs calls (take n runs) ++ cs) (append-nil (calls_of_run calls (run_at runs n)))

-- all of them
pub runs_all : (calls : List Call) (runs : List Run) (n : ℕ) → length runs ≤ n → calls_of_runs calls (take n runs) ≡ calls_of_runs calls runs
runs_all calls runs n l = ap (calls_of_runs calls) (take_all n runs l)

-- one more makes so many stores more
pub stores_more : (calls : List Call) (runs : List Run) (n : ℕ) → n < length runs
    → length_of (calls_of_runs calls (take (n + 1) runs)) ≡ length_of (calls_of_runs calls (take n runs)) + length_of (calls_of_run calls (run_at runs n))
stores_more calls runs n l = ap length_of (runs_more calls runs n l) ∙ sum_by-append call_cost (calls_of_runs calls (take n runs)) (calls_of_run calls (run_at runs n))

-- the first runs make no more stores than all
pub stores_within : (calls : List Call) (runs : List Run) (n : ℕ) → length_of (calls_of_runs calls (take n runs)) ≤ length_of (calls_of_runs calls runs)
stores_within calls runs n =
    let parts : length_of (calls_of_runs calls runs) ≡ length_of (calls_of_runs calls (take n runs)) + length_of (calls_of_runs calls (drop n runs)) =
    ap (λ (rs : List Run). length_of (calls_of_runs calls rs)) (sym (take-append-drop n runs))
    ∙ ap length_of (flat_map-append (calls_of_run calls) (take n runs) (drop n runs))
    ∙ sum_by-append call_cost (calls_of_runs calls (take n runs)) (calls_of_runs calls (drop n runs)) in
    omega (arith, parts)

-- a number of the calls of one run is one of those of all
pub in_runs : (f : Call → List ℕ) (calls : List Call) (runs : List Run) (n slot : ℕ) → n < length runs
    → Contains (flat_map f (calls_of_run calls (run_at runs n))) slot → Contains (flat_map f (calls_of_runs calls runs)) slot
in_runs f calls [] n slot l h = absurd (omega arith)
in_runs f calls (r ∷ rs) zero slot l h =
    subst (λ xs. Contains xs slot) (sym (flat_map-append f (calls_of_run calls r) (calls_of_runs calls rs)))
    (Contains-append_left (flat_map f (calls_of_run calls r)) (flat_map f (calls_of_runs calls rs)) slot h)
in_runs f calls (r ∷ rs) (suc n) slot l h =
    subst (λ xs. Contains xs slot) (sym (flat_map-append f (calls_of_run calls r) (calls_of_runs calls rs)))
    (Contains-append_right (flat_map f (calls_of_run calls r)) (flat_map f (calls_of_runs calls rs)) slot (in_runs f calls rs n slot (omega arith) h))

-- what holds of all of their numbers holds of those of one run
pub all_of_run : (P : ℕ → Type 0) (f : Call → List ℕ) (calls : List Call) (runs : List Run) (n : ℕ) → n < length runs
    → All P (flat_map f (calls_of_runs calls runs)) → All P (flat_map f (calls_of_run calls (run_at runs n)))
all_of_run P f calls runs n l h = λ k d m.
    let one : List ℕ = flat_map f (calls_of_run calls (run_at runs n)) in
    All-contains P (flat_map f (calls_of_runs calls runs)) (get_or one k d) h (in_runs f calls runs n (get_or one k d) l (Contains-get_or one k d m))

-- the calls of one run after those of the first ones
pub called_more : SequenceIsBoth → (calls : List Call) (runs : List Run) (n : ℕ) (before middle after : State) → n < length runs
    → AreCalled (calls_of_runs calls (take n runs)) before middle → AreCalled (calls_of_run calls (run_at runs n)) middle after
    → AreCalled (calls_of_runs calls (take (n + 1) runs)) before after
called_more law calls runs n before middle after l h k =
    subst (λ (cs : List Call). AreCalled cs before after) (sym (runs_more calls runs n l))
    ((law (calls_of_runs calls (take n runs)) (calls_of_run calls (run_at runs n)) before after).1 (middle, h, k))
