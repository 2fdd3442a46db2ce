use Rattle.vs_design.proofs.ExampleSelects.{selects_computed}
use Rattle.vs_design.proofs.select_examples.Goals as goal

pub returns : goal.returns
returns c = selects_computed
