use Rattle.vs_four.proofs.LogicLaws.{knowledge_grows}
use Rattle.vs_four.proofs.laws.knowledge_law.Goals as goal

pub returns : goal.returns
returns c = knowledge_grows
