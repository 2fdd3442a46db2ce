use Rattle.vs_four.proofs.ArithmeticLaws.{integers_are}
use Rattle.vs_four.proofs.laws.integer_law.Goals as goal

pub returns : goal.returns
returns c = integers_are
