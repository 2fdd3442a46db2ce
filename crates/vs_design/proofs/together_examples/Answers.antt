use Rattle.vs_design.proofs.ExampleTogether.{together_computed}
use Rattle.vs_design.proofs.together_examples.Goals as goal

pub returns : goal.returns
returns c = together_computed
