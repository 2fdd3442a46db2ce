use Rattle.std.proofs.Common.{map, flat_map, drop}
use Rattle.vs_ast.specs.Views as view
use Rattle.vs_elaborated.specs.Constructs.{label_of, labels_of, unknown_in}
use Rattle.vs_scope.specs.Frames.{view_env}
use Rattle.vs_scope.specs.SoFar.{IsFirstSoFar}
use Rattle.vs_scope.proofs.cases.unknown_in_arms.Given as goal

abbrev pub invariant-loop-arm : goal.invariant-loop-arm
invariant-loop-arm l =
    IsFirstSoFar l.fault (flat_map (unknown_in l.width l.signed) (map (label_of (view_env l.here)) (labels_of (view.generate_arms (drop l.arm-index l.arms)))))
    (flat_map (unknown_in l.width l.signed) (map (label_of (view_env l.here)) (labels_of (view.generate_arms l.arms))))
