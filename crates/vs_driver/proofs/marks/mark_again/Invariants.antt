use Rattle.vs_driver.proofs.Marking.{AgainTo}
use Rattle.vs_driver.proofs.marks.mark_again.Given as goal

abbrev pub invariant-loop-bit : goal.invariant-loop-bit
invariant-loop-bit l = AgainTo l.marks l.initial.again.items l.again.items l.bits l.bit-index
