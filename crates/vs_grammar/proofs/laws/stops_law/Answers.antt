use Rattle.vs_grammar.proofs.Whole.{stops_at_fault}
use Rattle.vs_grammar.proofs.laws.stops_law.Goals as goal

pub returns : goal.returns
returns c = stops_at_fault
