use Rattle.std.proofs.Common.{drop}
use Rattle.vs_scope.specs.Declares.{named_list}
use Rattle.vs_scope.specs.Frames.{view_env}
use Rattle.vs_scope.specs.Signalled.{start_of}
use Rattle.vs_scope.proofs.SignalLoops.{IsSignalled}
use Rattle.vs_scope.proofs.signals.said_signals.Given as goal

abbrev pub invariant-loop-i : goal.invariant-loop-i
invariant-loop-i l = IsSignalled (view_env l.here) (start_of l.fn.start) (start_of l.next) (drop l.i (named_list l.names)) (named_list l.names) l.signals.items l.fault
