use Rattle.vs_scope.proofs.Scopes.{height}
use Rattle.vs_scope.proofs.frames.+passed_at.Given as goal

abbrev pub decreases-passed_at : goal.decreases-passed_at
decreases-passed_at l = height l.scope
