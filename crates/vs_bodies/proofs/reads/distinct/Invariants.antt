use Rattle.vs_bodies.proofs.Mentioned.{AreDistinctTo}
use Rattle.vs_bodies.proofs.reads.distinct.Given as goal

abbrev pub invariant-loop-m : goal.invariant-loop-m
invariant-loop-m l = AreDistinctTo l.seen l.signals.items l.list l.m-index
