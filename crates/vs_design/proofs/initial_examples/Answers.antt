use Rattle.vs_design.proofs.ExampleInitials.{initials_computed}
use Rattle.vs_design.proofs.initial_examples.Goals as goal

pub returns : goal.returns
returns c = initials_computed
