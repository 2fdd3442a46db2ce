use Rattle.vs_four.proofs.ArithmeticLaws.{negation_is}
use Rattle.vs_four.proofs.laws.negation_law.Goals as goal

pub returns : goal.returns
returns c = negation_is
