use Rattle.std.proofs.Common.{map, drop}
use Rattle.vs_ast.specs.Views as view
use Rattle.vs_elaborated.specs.Constructs.{label_of}
use Rattle.vs_scope.specs.Frames.{view_env}
use Rattle.vs_scope.proofs.CaseLabels.{AreLabelled}
use Rattle.vs_scope.proofs.cases.list_labels.Given as goal

abbrev pub invariant-loop-e : goal.invariant-loop-e
invariant-loop-e l = AreLabelled l.all (map (label_of (view_env l.here)) (map view.expr (drop l.e-index l.list))) (map (label_of (view_env l.here)) (map view.expr l.list))
