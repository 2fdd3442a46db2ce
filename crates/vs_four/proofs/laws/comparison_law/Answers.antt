use Rattle.vs_four.proofs.ArithmeticLaws.{comparison_is}
use Rattle.vs_four.proofs.laws.comparison_law.Goals as goal

pub returns : goal.returns
returns c = comparison_is
