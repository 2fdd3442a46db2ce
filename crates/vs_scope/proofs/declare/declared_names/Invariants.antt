use Rattle.std.proofs.Common.{take}
use Rattle.vs_scope.proofs.DeclaredSoFar.{IsDeclared}
use Rattle.vs_scope.proofs.declare.declared_names.Given as goal

abbrev pub invariant-loop-d : goal.invariant-loop-d
invariant-loop-d l = IsDeclared l.number l.fn.counts (take l.d-index l.declarations) l.names l.fault
