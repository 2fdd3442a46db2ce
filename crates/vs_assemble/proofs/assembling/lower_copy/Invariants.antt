use Rattle.std.proofs.Common.{◌≡◌, map, take}
use Rattle.vs_program.specs.Lowered.{home}
use Rattle.vs_assemble.proofs.assembling.lower_copy.Given as goal

-- the slots of the first registers
abbrev pub invariant-loop-bit : goal.invariant-loop-bit
invariant-loop-bit g l = record {
  shadows : l.shadows.items ≡ map (g.T.Lowering.layout l.lowering).shadow (take l.bit-index l.registers);
  homes : l.homes.items ≡ map home (take l.bit-index l.registers);
}
