use Rattle.std.proofs.Common.{map, drop}
use Rattle.vs_scope.specs.Frames.{view_env}
use Rattle.vs_scope.specs.Views.{declaration}
use Rattle.vs_scope.proofs.FirstFaults.{AreRanged}
use Rattle.vs_scope.proofs.scope.range_faults.Given as goal

abbrev pub invariant-loop-d : goal.invariant-loop-d
invariant-loop-d l = AreRanged (view_env l.here) (map declaration (drop l.d-index l.declarations)) (map declaration l.declarations) l.fault
