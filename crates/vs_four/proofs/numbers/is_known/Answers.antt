use Rattle.vs_four.proofs.PlanesLemmas.{operand}
use Rattle.vs_four.proofs.NumberLemmas.{known_test}
use Rattle.vs_four.proofs.numbers.is_known.Goals as goal

pub returns : goal.returns
returns c = known_test (operand _ _ _ _ c.a.view_is c.a.invariant)
