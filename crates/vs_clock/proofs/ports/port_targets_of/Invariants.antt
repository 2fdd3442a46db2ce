use Rattle.std.proofs.Common.{◌≡◌, length}
use Rattle.vs_design.specs.Designs.{bit_count}
use Rattle.vs_flat.specs.DesignOf.{design_of}
use Rattle.vs_clock.specs.Ports.{ported_bits, AreTargets}
use Rattle.vs_clock.proofs.ports.port_targets_of.Given as goal

abbrev pub invariant-loop-p : goal.invariant-loop-p
invariant-loop-p l = (length l.targets ≡ bit_count (design_of l.flat)) × AreTargets ported_bits (design_of l.flat) l.p l.targets
