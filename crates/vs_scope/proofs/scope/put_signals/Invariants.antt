use Rattle.std.proofs.Common.{◌≡◌, map, drop}
use Rattle.vs_scope.specs.Complete.{IsStill}
use Rattle.vs_scope.specs.Signalled.{put_all}
use Rattle.vs_scope.specs.Views.{entries, signal_meaning}
use Rattle.vs_scope.proofs.scope.put_signals.Given as goal

abbrev pub invariant-loop-s : goal.invariant-loop-s
invariant-loop-s l = (put_all (map signal_meaning (drop l.s-index l.signals)) (entries l.names) ≡ put_all (map signal_meaning l.signals) (entries l.fn.names)) × IsStill l.fn.names l.names
