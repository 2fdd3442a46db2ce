use Rattle.vs_four.proofs.ArithmeticLaws.{quotient_is}
use Rattle.vs_four.proofs.laws.quotient_law.Goals as goal

pub returns : goal.returns
returns c = quotient_is
