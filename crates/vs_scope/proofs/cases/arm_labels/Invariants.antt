use Rattle.std.proofs.Common.{map, drop}
use Rattle.vs_ast.specs.Views as view
use Rattle.vs_elaborated.specs.Constructs.{label_of, labels_of}
use Rattle.vs_scope.specs.Frames.{view_env}
use Rattle.vs_scope.proofs.CaseLabels.{AreLabelled}
use Rattle.vs_scope.proofs.cases.arm_labels.Given as goal

abbrev pub invariant-loop-arm : goal.invariant-loop-arm
invariant-loop-arm l =
    AreLabelled l.all (map (label_of (view_env l.here)) (labels_of (view.generate_arms (drop l.arm-index l.arms)))) (map (label_of (view_env l.here)) (labels_of (view.generate_arms l.arms)))
