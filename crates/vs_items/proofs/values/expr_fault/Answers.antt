use Rattle.vs_scope.proofs.Fair.{view_fair}
use Rattle.vs_items.proofs.values.expr_fault.Goals as goal

pub check-requires-clause-fair : goal.check-requires-clause-fair
check-requires-clause-fair c = view_fair c.args.here.now
