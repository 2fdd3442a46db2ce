use Rattle.vs_grammar.proofs.WorkedTrees.{trees_are}
use Rattle.vs_grammar.proofs.laws.tree_examples.Goals as goal

pub returns : goal.returns
returns c = trees_are
