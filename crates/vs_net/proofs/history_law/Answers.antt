-- The values of a solution are its history.
use Rattle.vs_net.proofs.Histories.{history_is_in_values}
use Rattle.vs_net.proofs.history_law.Goals as goal

pub returns : goal.returns
returns c = history_is_in_values
