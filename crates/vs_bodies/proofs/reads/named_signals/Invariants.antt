use Rattle.vs_bodies.proofs.Mentioned.{AreNamedTo}
use Rattle.vs_bodies.proofs.reads.named_signals.Given as goal

abbrev pub invariant-loop-m : goal.invariant-loop-m
invariant-loop-m l = AreNamedTo l.named l.list l.m-index
