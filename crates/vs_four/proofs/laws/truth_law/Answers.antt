use Rattle.vs_four.proofs.LogicLaws.{truth_in_words}
use Rattle.vs_four.proofs.laws.truth_law.Goals as goal

pub returns : goal.returns
returns c = truth_in_words
