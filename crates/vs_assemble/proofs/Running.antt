-- The runs of processes in a program.
use Rattle.std.proofs.Common.{◌≡◌, ℕ, zero, suc, ◌<◌, List, [], ◌∷◌, ◌++◌, length, get_or, sym, ap, subst, refl, arith, length-append}
use Rattle.std.specs.List.{All}
use Rattle.std.proofs.lemmas.List.Elements.{All-nil, All-cons}
use Rattle.vs_design.specs.Designs.{Design}
use Rattle.vs_code.specs.Calls.{Call}
use Rattle.vs_program.specs.declared.compiled.Run.{Run}
use Rattle.vs_program.specs.Lowered.{Layout}
use Rattle.vs_program.specs.Phases.{IsRunWithin, calls_of_run, calls_of_runs}
use Rattle.vs_program.specs.Made.{IsLoweredAt, AreCallsOf}
use Rattle.vs_assemble.specs.Runs.{AreRunsOf}
use Rattle.vs_assemble.proofs.Slices.{part_of_first}

-- run n
abbrev pub run_at : List Run → ℕ → Run
run_at runs n = get_or runs n (record { from = 0; to = 0 })

-- a run that has the calls of a process
pub record IsRunOf (d : Design) (l : Layout) (calls : List Call) (p : ℕ) (r : Run) : Type 0 where
  pub within : IsRunWithin (length calls) r
  pub lowered : IsLoweredAt d l p (calls_of_run calls r)

pub run_is : (d : Design) (l : Layout) (calls : List Call) (ps : List ℕ) (rs : List Run) (n : ℕ) → n < length ps → AreRunsOf d l calls ps rs → IsRunOf d l calls (get_or ps n 0) (run_at rs n)
run_is d l calls [] rs n lt h = absurd (omega (arith, lt))
run_is d l calls (p ∷ ps) [] n lt h = absurd h
run_is d l calls (p ∷ ps) (r ∷ rs) zero lt h = record { within = h.0; lowered = h.1 }
run_is d l calls (p ∷ ps) (r ∷ rs) (suc n) lt h = run_is d l calls ps rs n (omega (arith, lt)) h.2

pub runs_push : (d : Design) (l : Layout) (calls : List Call) (ps : List ℕ) (rs : List Run) (p : ℕ) (r : Run) → AreRunsOf d l calls ps rs → IsRunOf d l calls p r → AreRunsOf d l calls (ps ++ p ∷ []) (rs ++ r ∷ [])
runs_push d l calls [] [] p r h one = (one.within, one.lowered, tt)
runs_push d l calls [] (s ∷ rs) p r h one = absurd h
runs_push d l calls (q ∷ ps) [] p r h one = absurd h
runs_push d l calls (q ∷ ps) (s ∷ rs) p r h one = (h.0, h.1, runs_push d l calls ps rs p r h.2 one)

pub runs_count : (d : Design) (l : Layout) (calls : List Call) (ps : List ℕ) (rs : List Run) → AreRunsOf d l calls ps rs → length rs ≡ length ps
runs_count d l calls [] [] h = refl
runs_count d l calls [] (r ∷ rs) h = absurd h
runs_count d l calls (p ∷ ps) [] h = absurd h
runs_count d l calls (p ∷ ps) (r ∷ rs) h = ap suc (runs_count d l calls ps rs h.2)

pub runs_within : (d : Design) (l : Layout) (calls : List Call) (ps : List ℕ) (rs : List Run) → AreRunsOf d l calls ps rs → All (IsRunWithin (length calls)) rs
runs_within d l calls [] [] h = All-nil (IsRunWithin (length calls))
runs_within d l calls [] (r ∷ rs) h = absurd h
runs_within d l calls (p ∷ ps) [] h = absurd h
runs_within d l calls (p ∷ ps) (r ∷ rs) h = All-cons (IsRunWithin (length calls)) r rs h.0 (runs_within d l calls ps rs h.2)

-- their calls are the calls of the processes
pub runs_calls : (d : Design) (l : Layout) (calls : List Call) (ps : List ℕ) (rs : List Run) → AreRunsOf d l calls ps rs → AreCallsOf d l ps (calls_of_runs calls rs)
runs_calls d l calls [] [] h = refl
runs_calls d l calls [] (r ∷ rs) h = absurd h
runs_calls d l calls (p ∷ ps) [] h = absurd h
runs_calls d l calls (p ∷ ps) (r ∷ rs) h = (calls_of_run calls r, calls_of_runs calls rs, refl, h.1, runs_calls d l calls ps rs h.2)

-- a run lies in a longer program too, with the same calls
pub within_grown : (calls more : List Call) (r : Run) → IsRunWithin (length calls) r → IsRunWithin (length (calls ++ more)) r
within_grown calls more r h = let long = length-append calls more in record { order = h.order; there = omega (arith, h.there, long) }

pub run_grown : (calls more : List Call) (r : Run) → IsRunWithin (length calls) r → calls_of_run (calls ++ more) r ≡ calls_of_run calls r
run_grown calls more r h = part_of_first calls more r.from r.to h.order h.there

pub runs_grown : (d : Design) (l : Layout) (calls more : List Call) (ps : List ℕ) (rs : List Run) → AreRunsOf d l calls ps rs → AreRunsOf d l (calls ++ more) ps rs
runs_grown d l calls more [] [] h = tt
runs_grown d l calls more [] (r ∷ rs) h = absurd h
runs_grown d l calls more (p ∷ ps) [] h = absurd h
runs_grown d l calls more (p ∷ ps) (r ∷ rs) h =
    (within_grown calls more r h.0, subst (λ (cs : List Call). IsLoweredAt d l p cs) (sym (run_grown calls more r h.0)) h.1, runs_grown d l calls more ps rs h.2)
