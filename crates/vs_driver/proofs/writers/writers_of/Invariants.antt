use Rattle.vs_flat.specs.DesignOf.{design_of}
use Rattle.vs_driver.proofs.Writing.{WritersTo}
use Rattle.vs_driver.proofs.writers.writers_of.Given as goal

abbrev pub invariant-loop-n : goal.invariant-loop-n
invariant-loop-n l = WritersTo (design_of l.typed) l.bit l.n l.writers
