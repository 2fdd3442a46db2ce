use Rattle.vs_scope.proofs.HandsSoFar.{HandsTo}
use Rattle.vs_scope.proofs.inside.Inside.hands_on.Given as goal

abbrev pub invariant-loop-n : goal.invariant-loop-n
invariant-loop-n l = HandsTo l.self l.name l.count l.n
