use Rattle.vs_grammar.proofs.Precedes.{precedence_is}
use Rattle.vs_grammar.proofs.laws.precedence_law.Goals as goal

pub returns : goal.returns
returns c = precedence_is
