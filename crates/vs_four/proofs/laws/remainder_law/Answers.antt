use Rattle.vs_four.proofs.ArithmeticLaws.{remainder_is}
use Rattle.vs_four.proofs.laws.remainder_law.Goals as goal

pub returns : goal.returns
returns c = remainder_is
