use Rattle.vs_feed.proofs.Packs.{AreBits}
use Rattle.vs_feed.proofs.column.bits_of.Given as goal

abbrev pub invariant-loop-i : goal.invariant-loop-i
invariant-loop-i l = AreBits l.stimuli l.input l.k l.i l.value l.unknown
