use Rattle.vs_flat.specs.DesignOf.{design_of}
use Rattle.vs_driver.specs.Marks.{AreStarts}
use Rattle.vs_driver.proofs.starts.starts_of.Given as goal

abbrev pub invariant-loop-k : goal.invariant-loop-k
invariant-loop-k l = AreStarts (design_of l.typed) l.k l.starts
