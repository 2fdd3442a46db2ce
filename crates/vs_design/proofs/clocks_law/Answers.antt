use Rattle.vs_design.proofs.EachClock.{nets_of_each}
use Rattle.vs_design.proofs.clocks_law.Goals as goal

pub returns : goal.returns
returns c = nets_of_each
