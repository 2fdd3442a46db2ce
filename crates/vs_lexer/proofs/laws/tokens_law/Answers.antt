use Rattle.vs_lexer.proofs.Spans.{tokens_stand}
use Rattle.vs_lexer.proofs.laws.tokens_law.Goals as goal

pub returns : goal.returns
returns c = tokens_stand
