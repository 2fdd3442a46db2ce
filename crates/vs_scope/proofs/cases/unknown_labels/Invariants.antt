use Rattle.std.proofs.Common.{map, flat_map, drop}
use Rattle.vs_ast.specs.Views as view
use Rattle.vs_elaborated.specs.Constructs.{label_of, unknown_in}
use Rattle.vs_scope.specs.Frames.{view_env}
use Rattle.vs_scope.specs.SoFar.{IsFirstSoFar}
use Rattle.vs_scope.proofs.cases.unknown_labels.Given as goal

abbrev pub invariant-loop-e : goal.invariant-loop-e
invariant-loop-e l =
    IsFirstSoFar l.fault (flat_map (unknown_in l.width l.signed) (map (label_of (view_env l.here)) (map view.expr (drop l.e-index l.list)))) (flat_map (unknown_in l.width l.signed) (map (label_of (view_env l.here)) (map view.expr l.list)))
