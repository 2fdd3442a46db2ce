use Rattle.std.proofs.Common.{◌++◌, take}
use Rattle.vs_cone.specs.Given.{bits_of_resets}
use Rattle.vs_assemble.specs.Flags.{HasBitsOf}
use Rattle.vs_assemble.proofs.planning.falling.Given as goal

-- the inputs, and what the resets of the first processes set
abbrev pub invariant-loop-process : goal.invariant-loop-process
invariant-loop-process g l =
    HasBitsOf l.bits l.falling.items (l.inputs ++ bits_of_resets (g.T.Processes.design l.lowering) l.clocks (take l.process (g.T.Processes.design l.lowering).processes))
