use Rattle.vs_design.specs.Designs.{bit_count}
use Rattle.vs_flat.specs.DesignOf.{design_of}
use Rattle.vs_clock.proofs.Marking.{AreWritten}
use Rattle.vs_clock.proofs.dead.written.Given as goal

abbrev pub invariant-loop-p : goal.invariant-loop-p
invariant-loop-p l = AreWritten (design_of l.flat).processes l.marks.items (bit_count (design_of l.flat)) l.p
