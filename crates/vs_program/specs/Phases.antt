-- The calls of each phase, as runs of the calls of one program.
use Rattle.std.specs.Prelude.{ℕ, ◌≤◌, List, slice_range, All}
use Rattle.std.specs.List.{flat_map}
use Rattle.vs_code.specs.Calls.{Call}
use Rattle.vs_program.specs.declared.compiled.Run.{Run}
use Rattle.vs_program.specs.declared.compiled.Phase.{Phase}
use Rattle.vs_program.specs.declared.compiled.Phase.TheVariants.{First, Fall, Next, Rise}
use Rattle.vs_program.specs.declared.compiled.Phases.{Phases}

-- the run lies among so many calls
pub record IsRunWithin (count : ℕ) (r : Run) : Type 0 where
  pub order : r.from ≤ r.to
  pub there : r.to ≤ count

-- the calls of a run
abbrev pub calls_of_run : List Call → Run → List Call
calls_of_run calls r = slice_range calls r.from r.to

-- those of runs, one run after the other
abbrev pub calls_of_runs : List Call → List Run → List Call
calls_of_runs calls runs = flat_map (calls_of_run calls) runs

-- the runs of a phase
abbrev pub runs_at : Phases → Phase → List Run
runs_at p First = p.first.items
runs_at p Fall = p.fall.items
runs_at p Next = p.next.items
runs_at p Rise = p.rise.items

-- all runs lie among so many calls
pub record ArePhasesWithin (count : ℕ) (p : Phases) : Type 0 where
  pub each : (phase : Phase) → All (IsRunWithin count) (runs_at p phase)
