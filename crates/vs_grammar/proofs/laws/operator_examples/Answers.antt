use Rattle.vs_grammar.proofs.WorkedOperators.{operators_are}
use Rattle.vs_grammar.proofs.laws.operator_examples.Goals as goal

pub returns : goal.returns
returns c = operators_are
