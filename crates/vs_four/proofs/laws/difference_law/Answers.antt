use Rattle.vs_four.proofs.ArithmeticLaws.{difference_is}
use Rattle.vs_four.proofs.laws.difference_law.Goals as goal

pub returns : goal.returns
returns c = difference_is
