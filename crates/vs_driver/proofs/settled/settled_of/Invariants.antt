use Rattle.vs_flat.specs.DesignOf.{design_of}
use Rattle.vs_driver.specs.Marks.{AreSettled}
use Rattle.vs_driver.proofs.settled.settled_of.Given as goal

abbrev pub invariant-loop-p : goal.invariant-loop-p
invariant-loop-p l = AreSettled (design_of l.typed) l.p l.marks
