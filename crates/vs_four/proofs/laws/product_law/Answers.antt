use Rattle.vs_four.proofs.ArithmeticLaws.{product_is}
use Rattle.vs_four.proofs.laws.product_law.Goals as goal

pub returns : goal.returns
returns c = product_is
