use Rattle.vs_four.proofs.ArithmeticLaws.{sum_is}
use Rattle.vs_four.proofs.laws.sum_law.Goals as goal

pub returns : goal.returns
returns c = sum_is
