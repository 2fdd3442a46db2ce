use Rattle.std.proofs.Common.{◌≡◌, length}
use Rattle.vs_design.specs.Designs.{bit_count}
use Rattle.vs_flat.specs.DesignOf.{design_of}
use Rattle.vs_clock.specs.Ports.{port_bits, AreTargets}
use Rattle.vs_clock.proofs.ports.targets_of.Given as goal

abbrev pub invariant-loop-p : goal.invariant-loop-p
invariant-loop-p l = (length l.targets ≡ bit_count (design_of l.flat)) × AreTargets port_bits (design_of l.flat) l.p l.targets
