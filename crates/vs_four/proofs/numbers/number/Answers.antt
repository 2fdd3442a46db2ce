use Rattle.vs_four.proofs.PlanesLemmas.{operand}
use Rattle.vs_four.proofs.NumberLemmas.{known_number}
use Rattle.vs_four.proofs.numbers.number.Goals as goal

pub returns : goal.returns
returns c = known_number (operand _ _ _ _ c.a.view_is c.a.invariant) c.requires
