use Rattle.vs_grammar.proofs.Whole.{sinks_too_deep}
use Rattle.vs_grammar.proofs.laws.depth_law.Goals as goal

pub returns : goal.returns
returns c = sinks_too_deep
