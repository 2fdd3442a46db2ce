use Rattle.std.proofs.Common.{◌≡◌, take}
use Rattle.vs_cone.specs.Cones.{but_ports}
use Rattle.vs_assemble.proofs.planning.but_ports.Given as goal

-- those of the first processes
abbrev pub invariant-loop-process : goal.invariant-loop-process
invariant-loop-process g l = l.settling.items ≡ but_ports (g.T.Processes.design l.lowering) l.clocks (take l.process-index l.order)
