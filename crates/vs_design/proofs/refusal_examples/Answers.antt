use Rattle.vs_design.proofs.ExampleLaws.{refusals_computed}
use Rattle.vs_design.proofs.refusal_examples.Goals as goal

pub returns : goal.returns
returns c = refusals_computed
