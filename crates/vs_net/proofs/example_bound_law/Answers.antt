-- The example has weights.
use Rattle.vs_net.proofs.ExampleBound.{example_is_bounded}
use Rattle.vs_net.proofs.example_bound_law.Goals as goal

pub returns : goal.returns
returns c = example_is_bounded
