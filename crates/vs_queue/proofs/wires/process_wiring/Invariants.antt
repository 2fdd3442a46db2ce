use Rattle.vs_design.specs.Designs.{bit_count}
use Rattle.vs_flat.specs.DesignOf.{design_of}
use Rattle.vs_queue.specs.Spare.{value_count}
use Rattle.vs_queue.proofs.Listening.{AreWired}
use Rattle.vs_queue.proofs.wires.process_wiring.Given as goal

abbrev pub invariant-loop-p : goal.invariant-loop-p
invariant-loop-p l = AreWired (value_count (design_of l.typed) l.clocks.bits) (bit_count (design_of l.typed)) (design_of l.typed).processes l.wiring l.p
