use Rattle.vs_scope.proofs.Fair.{view_fair}
use Rattle.vs_scope.proofs.laws.fair_law.Goals as goal

pub returns : goal.returns
returns c = view_fair
