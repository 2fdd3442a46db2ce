use Rattle.vs_bodies.proofs.Declaring.{AreUntaken}
use Rattle.vs_bodies.proofs.blocks.untaken_variable.Given as goal

abbrev pub invariant-loop-n : goal.invariant-loop-n
invariant-loop-n l = AreUntaken l.n-items l.n-index l.fault
