use Rattle.vs_scope.proofs.Scopes.{height}
use Rattle.vs_scope.proofs.frames.+entry_at.Given as goal

abbrev pub decreases-entry_at : goal.decreases-entry_at
decreases-entry_at l = height l.number
