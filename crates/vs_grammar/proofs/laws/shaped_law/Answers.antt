use Rattle.vs_grammar.proofs.Shaped.{spelled_is_shaped}
use Rattle.vs_grammar.proofs.laws.shaped_law.Goals as goal

pub returns : goal.returns
returns c = spelled_is_shaped c.longest_law.ensures
