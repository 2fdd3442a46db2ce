use Rattle.vs_misses.proofs.Words.{AreLowest}
use Rattle.vs_misses.proofs.packing.lowest.Given as goal

abbrev pub invariant-loop-i : goal.invariant-loop-i
invariant-loop-i l = AreLowest l.words l.i l.bits
