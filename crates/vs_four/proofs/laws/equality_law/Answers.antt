use Rattle.vs_four.proofs.LogicLaws.{equality_in_words}
use Rattle.vs_four.proofs.laws.equality_law.Goals as goal

pub returns : goal.returns
returns c = equality_in_words
