use Rattle.vs_full.proofs.Counted.{IsCounted}
use Rattle.vs_full.proofs.patterns.values_of.Given as goal

abbrev pub invariant-loop-n : goal.invariant-loop-n
invariant-loop-n l = IsCounted l.pattern l.n l.count

abbrev pub decreases-loop-n : goal.decreases-loop-n
decreases-loop-n l = l.n
