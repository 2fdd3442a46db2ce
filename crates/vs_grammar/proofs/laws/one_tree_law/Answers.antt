use Rattle.vs_grammar.proofs.Whole.{one_tree}
use Rattle.vs_grammar.proofs.laws.one_tree_law.Goals as goal

pub returns : goal.returns
returns c = one_tree
