use Rattle.vs_names.proofs.scopes.+push_scope.Given as goal

abbrev pub decreases-push_scope : goal.decreases-push_scope
decreases-push_scope l = l.left
