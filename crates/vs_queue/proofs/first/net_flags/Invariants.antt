use Rattle.vs_design.specs.Designs.{bit_count}
use Rattle.vs_flat.specs.DesignOf.{design_of}
use Rattle.vs_queue.proofs.Flags.{AreNets}
use Rattle.vs_queue.proofs.first.net_flags.Given as goal

abbrev pub invariant-loop-n : goal.invariant-loop-n
invariant-loop-n l = AreNets (design_of l.typed).signals l.flags.items (bit_count (design_of l.typed)) l.n
