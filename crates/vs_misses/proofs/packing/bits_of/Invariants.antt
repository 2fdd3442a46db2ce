use Rattle.vs_misses.proofs.Packs.{AreBits}
use Rattle.vs_misses.proofs.packing.bits_of.Given as goal

abbrev pub invariant-loop-i : goal.invariant-loop-i
invariant-loop-i l = AreBits l.drive l.places l.k l.i l.value l.unknown l.any
