-- When a block that may sleep has run.
use Rattle.vs_net.proofs.Sleeping.{sleepers_wake}
use Rattle.vs_net.proofs.sleep_law.Goals as goal

pub returns : goal.returns
returns c = sleepers_wake
