use Rattle.vs_grammar.proofs.Whole.{read_is_derived}
use Rattle.vs_grammar.proofs.laws.reading_law.Goals as goal

pub returns : goal.returns
returns c = read_is_derived
