use Rattle.vs_scope.proofs.Scopes.{height}
use Rattle.vs_scope.proofs.frames.+turn_at.Given as goal

abbrev pub decreases-turn_at : goal.decreases-turn_at
decreases-turn_at l = height l.number
