use Rattle.std.proofs.Common.{◌≡◌, take}
use Rattle.vs_cone.specs.Counts.{clocked_from}
use Rattle.vs_assemble.proofs.planning.clocked.Given as goal

-- those of the first processes
abbrev pub invariant-loop-process : goal.invariant-loop-process
invariant-loop-process g l = l.blocks.items ≡ clocked_from 0 (take l.process (g.T.Processes.design l.lowering).processes)
