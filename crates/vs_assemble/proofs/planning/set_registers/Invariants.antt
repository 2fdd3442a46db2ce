use Rattle.std.proofs.Common.{◌≡◌, [], length, take}
use Rattle.vs_design.specs.Sizes.{register_bits}
use Rattle.vs_assemble.specs.Flags.{AreFlags}
use Rattle.vs_assemble.proofs.planning.set_registers.Given as goal

-- the flags of the first processes' registers are set
abbrev pub invariant-loop-process : goal.invariant-loop-process
invariant-loop-process g l = record {
  count : length l.flags ≡ length l.initial.flags;
  set : AreFlags l.initial.flags [] → AreFlags l.flags (register_bits (take l.process (g.T.Processes.design l.lowering).processes));
}
