use Rattle.vs_clock.proofs.Marking.{AreMarked}
use Rattle.vs_clock.proofs.dead.mark_all.Given as goal

abbrev pub invariant-loop-bit : goal.invariant-loop-bit
invariant-loop-bit l = AreMarked l.bits l.initial.marks.items l.marks.items l.bit-index
