use Rattle.vs_lexer.proofs.LongestFacts.{longest_taken}
use Rattle.vs_lexer.proofs.laws.longest_law.Goals as goal

pub returns : goal.returns
returns c = longest_taken
