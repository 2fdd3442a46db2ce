use Rattle.vs_grammar.proofs.WorkedFaults.{depths_are}
use Rattle.vs_grammar.proofs.laws.depth_examples.Goals as goal

pub returns : goal.returns
returns c = depths_are
