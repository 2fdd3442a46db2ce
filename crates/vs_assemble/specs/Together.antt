-- The calls of a design's processes in one program, and the phases that are made of them.
use Rattle.std.specs.Prelude.{◌≡◌, ℕ, List, ◌++◌, length}
use Rattle.vs_design.specs.Designs.{Design}
use Rattle.vs_code.specs.Calls.{Call}
use Rattle.vs_program.specs.declared.compiled.Phases.{Phases}
use Rattle.vs_program.specs.Lowered.{Layout}
use Rattle.vs_program.specs.Layouts.{slots_of_design}
use Rattle.vs_program.specs.Phases.{ArePhasesWithin, IsRunWithin, calls_of_run, calls_of_runs}
use Rattle.vs_program.specs.Program.{AreIn}
use Rattle.vs_program.specs.Made.{AreCallsOf, AreResetsOf, copy_shadows, fall_processes, rise_processes}
use Rattle.vs_assemble.specs.declared.assembling.Lowered.{Lowered}
use Rattle.vs_assemble.specs.Runs.{AreRunsOf}

-- the resets of the clocked blocks, the processes that settle, the clocked blocks, and the copy of the registers' next values
pub record IsLoweredDesign (d : Design) (clocks : List ℕ) (l : Layout) (settling blocks registers : List ℕ) (lowered : Lowered) : Type 0 where
  pub resets_within : IsRunWithin (length lowered.program) lowered.resets
  pub resets_are : AreResetsOf d clocks l blocks (calls_of_run lowered.program lowered.resets)
  pub settling_are : AreRunsOf d l lowered.program settling lowered.settling.items
  pub blocks_are : AreRunsOf d l lowered.program blocks lowered.blocks.items
  pub copy_within : IsRunWithin (length lowered.program) lowered.copy
  pub copy_is : calls_of_run lowered.program lowered.copy ≡ copy_shadows l registers
  pub slots : AreIn (slots_of_design d) lowered.program

-- what each phase makes of these calls
pub record ArePhasesOf (d : Design) (clocks : List ℕ) (l : Layout) (order : List ℕ) (lowered : Lowered) (phases : Phases) : Type 0 where
  pub within : ArePhasesWithin (length lowered.program) phases
  pub first : calls_of_runs lowered.program phases.first.items ≡ calls_of_run lowered.program lowered.resets ++ calls_of_runs lowered.program lowered.settling.items
  pub settle_fall : List Call
  pub fall_are : AreCallsOf d l (fall_processes d clocks order) settle_fall
  pub fall : calls_of_runs lowered.program phases.fall.items ≡ calls_of_run lowered.program lowered.resets ++ settle_fall
  pub next : calls_of_runs lowered.program phases.next.items ≡ calls_of_runs lowered.program lowered.blocks.items ++ calls_of_run lowered.program lowered.copy
  pub rise : AreCallsOf d l (rise_processes d clocks order) (calls_of_runs lowered.program phases.rise.items)
