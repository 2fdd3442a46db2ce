use Rattle.std.proofs.Common.{map, take}
use Rattle.vs_elaborated.specs.Functions as spec
use Rattle.vs_scope.specs.Frames.{view_env}
use Rattle.vs_scope.specs.Locals.{local, local_start}
use Rattle.vs_scope.specs.LocalLists.{IsSigned}
use Rattle.vs_scope.proofs.local_signals.Signalling.signal_all.Given as goal

abbrev pub invariant-loop-v : goal.invariant-loop-v
invariant-loop-v l = IsSigned l.fn.self l.self (spec.signals_of (view_env l.here) (local_start l.fn.self.next) l.role l.input (map local (take l.v-index l.all)))
