use Rattle.vs_scope.proofs.PassedSignals.{ArePassedTo}
use Rattle.vs_scope.proofs.local_signals.Signalling.pass_all.Given as goal

abbrev pub invariant-loop-s : goal.invariant-loop-s
invariant-loop-s l = ArePassedTo l.fn.self l.self l.list.items l.reads l.s-index
