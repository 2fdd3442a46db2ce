use Rattle.vs_grammar.proofs.ItemDepths.{tree_is_as_deep}
use Rattle.vs_grammar.proofs.laws.tree_depth_law.Goals as goal

pub returns : goal.returns
returns c = tree_is_as_deep
