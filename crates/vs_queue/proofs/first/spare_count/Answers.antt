use Rattle.std.proofs.Common.{length, sym, ap, ◌∙◌}
use Rattle.vs_flat.specs.DesignOf.{design_of}
use Rattle.vs_queue.proofs.Spares.{spare_length}
use Rattle.vs_queue.proofs.first.spare_count.Goals as goal

pub returns-in-Some : goal.returns-in-Some
returns-in-Some c = sym (ap length c.in-Some.ensures) ∙ spare_length (design_of c.args.flat.now) c.args.clocks.now

pub returns-in-None : goal.returns-in-None
returns-in-None c = sym (ap length c.in-None.ensures) ∙ spare_length (design_of c.args.flat.now) c.args.clocks.now
