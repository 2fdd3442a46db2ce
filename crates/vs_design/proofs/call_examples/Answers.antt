use Rattle.vs_design.proofs.ExampleLaws.{calls_computed}
use Rattle.vs_design.proofs.call_examples.Goals as goal

pub returns : goal.returns
returns c = calls_computed
