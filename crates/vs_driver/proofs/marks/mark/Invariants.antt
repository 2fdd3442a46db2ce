use Rattle.vs_driver.proofs.Marking.{MarkedTo}
use Rattle.vs_driver.proofs.marks.mark.Given as goal

abbrev pub invariant-loop-bit : goal.invariant-loop-bit
invariant-loop-bit l = MarkedTo l.initial.marks.items l.marks.items l.bits l.bit-index
