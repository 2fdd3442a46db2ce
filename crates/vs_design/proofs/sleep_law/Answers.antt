use Rattle.vs_design.proofs.Lawful.{sleepers_of}
use Rattle.vs_design.proofs.sleep_law.Goals as goal

pub returns : goal.returns
returns c = sleepers_of
