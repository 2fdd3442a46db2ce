use Rattle.std.proofs.Common.{◌≡◌, ◌≤◌, ◌+◌, List, ◌++◌, take}
use Rattle.std.specs.Prelude.{sum_by}
use Rattle.vs_code.specs.Calls.{Call, length_of}
use Rattle.vs_program.specs.Layouts.{slots_of_design}
use Rattle.vs_program.specs.Program.{AreIn}
use Rattle.vs_assemble.specs.Plans.{may_store}
use Rattle.vs_assemble.specs.Runs.{AreRunsOf}
use Rattle.vs_assemble.proofs.assembling.lower_each.Given as goal

-- the calls of the first processes were added
abbrev pub invariant-loop-process : goal.invariant-loop-process
invariant-loop-process g l = record {
  runs : AreRunsOf (g.T.Processes.design l.lowering) (g.T.Lowering.layout l.lowering) l.program (take l.process-index l.processes) l.runs.items;
  grown : (calls : List Call) × (l.program ≡ l.initial.program ++ calls);
  few : length_of l.program ≤ length_of l.initial.program + sum_by (may_store (g.T.Processes.design l.lowering)) (take l.process-index l.processes);
  slots : AreIn (slots_of_design (g.T.Processes.design l.lowering)) l.initial.program → AreIn (slots_of_design (g.T.Processes.design l.lowering)) l.program;
}
