-- The runs of a program's calls that are the calls of processes.
use Rattle.std.specs.Prelude.{◌≡◌, ℕ, List, [], ◌∷◌, ◌++◌, length, All}
use Rattle.vs_design.specs.Designs.{Design}
use Rattle.vs_code.specs.Calls.{Call}
use Rattle.vs_program.specs.declared.compiled.Run.{Run}
use Rattle.vs_program.specs.Lowered.{Layout}
use Rattle.vs_program.specs.Phases.{IsRunWithin, calls_of_run, calls_of_runs}
use Rattle.vs_program.specs.Made.{IsLoweredAt}

-- a run for each of these processes, whose calls are the process's
abbrev pub AreRunsOf : Design → Layout → List Call → List ℕ → List Run → Type 0
AreRunsOf d l calls [] [] = Unit {0}
AreRunsOf d l calls (p ∷ ps) (r ∷ rs) = IsRunWithin (length calls) r × IsLoweredAt d l p (calls_of_run calls r) × AreRunsOf d l calls ps rs
AreRunsOf d l calls _ _ = ⊥

-- these runs have the calls of the first ones, and then those of the others
pub record AreJoinedRuns (first others runs : List Run) : Type 0 where
  pub within : (count : ℕ) → All (IsRunWithin count) first → All (IsRunWithin count) others → All (IsRunWithin count) runs
  pub calls : (calls : List Call) → All (IsRunWithin (length calls)) first → All (IsRunWithin (length calls)) others
      → calls_of_runs calls runs ≡ calls_of_runs calls first ++ calls_of_runs calls others
