use Rattle.vs_design.specs.Designs.{bit_count}
use Rattle.vs_flat.specs.DesignOf.{design_of}
use Rattle.vs_queue.proofs.Alone.{AreWritten}
use Rattle.vs_queue.proofs.starts.written_flags.Given as goal

abbrev pub invariant-loop-p : goal.invariant-loop-p
invariant-loop-p l = AreWritten (design_of l.typed).processes l.flags.items (bit_count (design_of l.typed)) l.p
