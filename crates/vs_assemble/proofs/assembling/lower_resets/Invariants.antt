use Rattle.std.proofs.Common.{◌≤◌, take}
use Rattle.std.specs.Prelude.{sum_by}
use Rattle.vs_code.specs.Calls.{length_of}
use Rattle.vs_program.specs.Layouts.{slots_of_design}
use Rattle.vs_program.specs.Program.{AreIn}
use Rattle.vs_program.specs.Made.{AreResetsOf}
use Rattle.vs_assemble.specs.Plans.{may_store}
use Rattle.vs_assemble.proofs.assembling.lower_resets.Given as goal

-- the calls of the resets of the first blocks
abbrev pub invariant-loop-process : goal.invariant-loop-process
invariant-loop-process g l = record {
  calls : AreResetsOf (g.T.Processes.design l.lowering) l.clocks (g.T.Lowering.layout l.lowering) (take l.process-index l.blocks) l.program;
  few : length_of l.program ≤ sum_by (may_store (g.T.Processes.design l.lowering)) (take l.process-index l.blocks);
  slots : AreIn (slots_of_design (g.T.Processes.design l.lowering)) l.program;
}
