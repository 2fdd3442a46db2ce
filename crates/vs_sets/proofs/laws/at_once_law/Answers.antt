use Rattle.vs_sets.proofs.AtOnce.{blocking_is_at_once}
use Rattle.vs_sets.proofs.laws.at_once_law.Goals as goal

pub returns : goal.returns
returns c = blocking_is_at_once
