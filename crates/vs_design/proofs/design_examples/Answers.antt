use Rattle.vs_design.proofs.ExampleLaws.{designs_computed}
use Rattle.vs_design.proofs.design_examples.Goals as goal

pub returns : goal.returns
returns c = designs_computed
