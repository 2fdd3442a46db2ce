use Rattle.std.proofs.Common.{map, drop}
use Rattle.vs_ast.specs.Views as view
use Rattle.vs_maps.specs.Sets.{has}
use Rattle.vs_scope.proofs.HeaderLoops.{AreDirected, direction}
use Rattle.vs_scope.proofs.header.direct.Given as goal

abbrev pub invariant-loop-d : goal.invariant-loop-d
invariant-loop-d l =
    AreDirected (has l.known) (has l.fn.directed) (has l.directed) l.fault (map (direction (view.signal_kind l.signals.kind)) (map view.declarator (drop l.d-index l.d-items))) (map (direction (view.signal_kind l.signals.kind)) (map view.declarator l.d-items))
