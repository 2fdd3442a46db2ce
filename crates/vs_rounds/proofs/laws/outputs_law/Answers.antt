use Rattle.vs_rounds.proofs.Outputs.{outputs_have_spans, spans_have_lengths}
use Rattle.vs_rounds.proofs.laws.outputs_law.Goals as goal

pub returns-clause-spans : goal.returns-clause-spans
returns-clause-spans c = outputs_have_spans

pub returns-clause-lengths : goal.returns-clause-lengths
returns-clause-lengths c = spans_have_lengths
